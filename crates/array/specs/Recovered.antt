-- What data node j held, from the symbols v at the places of its read sheet.
use Rattle.std.specs.Prelude.{ℕ, ◌+◌, ◌-◌, cond, ◌==◌, nat_le, nat_lt}
use Rattle.field.specs.Laws.{Operations}
use Rattle.row.specs.Interpolation.{interpolate}
use Rattle.array.specs.declared.parameters.Parameters.{Parameters}
use Rattle.array.specs.Layout.{steps, reach, wrap, offset, step_node, skip}
use Rattle.array.specs.Symbols.{sum_but, past, array}

-- the row rule at node m of row i, from the k places of row i at the nodes 0, .., k but j
unfoldable pub around : {F : Type 0} → Operations F → (ℕ → F) → Parameters → (ℕ → ℕ → F) → ℕ → ℕ → ℕ → F
around o symbol s v j i m = interpolate o (λ l. symbol (skip j l)) s.k (λ l. v i (skip j l)) (symbol m)

-- by the last Class B node: the symbol at m = x places past the diagonal in row i
unfoldable pub by_local : {F : Type 0} → Operations F → Parameters → (ℕ → ℕ → F) → ℕ → ℕ → F
by_local o s v x i =
    o.difference (o.difference (v i (step_node s (steps s))) (v (wrap s (i + steps s)) i))
    (sum_but o x (reach s - 1) (λ m. v i (wrap s (i + m))))

-- THE SYMBOL in row i of data node j, by its offset x
unfoldable pub recovered_at : {F : Type 0} → Operations F → (ℕ → F) → Parameters → (ℕ → ℕ → F) → ℕ → ℕ → ℕ → F
recovered_at o symbol s v j i x =
    cond (x == 0) (around o symbol s v j j j)
    (cond (nat_le x s.tau) (o.difference (v j (step_node s x)) (around o symbol s v j j (step_node s x)))
    (cond (nat_le x (steps s)) (o.difference (v j (step_node s x)) (past o s v j x))
    (cond (s.b == 0) (around o symbol s v j i j)
    (by_local o s v (s.k - x) i))))

unfoldable pub recovered : {F : Type 0} → Operations F → (ℕ → F) → Parameters → (ℕ → ℕ → F) → ℕ → ℕ → F
recovered o symbol s v j i = recovered_at o symbol s v j i (offset s i j)

-- THE SYMBOL in row i of any node: a parity node's is made again from the data
unfoldable pub restored : {F : Type 0} → Operations F → (ℕ → F) → Parameters → (ℕ → ℕ → F) → ℕ → ℕ → F
restored o symbol s v m i = cond (nat_lt m s.k) (recovered o symbol s v m i) (array o symbol s v i m)
