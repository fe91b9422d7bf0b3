-- The symbols of the code array over the data d, where d i j is the data symbol in row i of data node j.
use Rattle.std.specs.Prelude.{ℕ, ◌+◌, ◌-◌, cond, ◌==◌, nat_le, nat_lt}
use Rattle.field.specs.Laws.{Operations}
use Rattle.row.specs.Interpolation.{sum_below, interpolate}
use Rattle.array.specs.declared.parameters.Parameters.{Parameters}
use Rattle.array.specs.Layout.{wrap, first_step, step_of}

-- f 1 + f 2 + .. + f n
unfoldable pub sum_to : {F : Type 0} → Operations F → ℕ → (ℕ → F) → F
sum_to o n f = sum_below o n (λ m. f (m + 1))

-- the same without f x
unfoldable pub sum_but : {F : Type 0} → Operations F → ℕ → ℕ → (ℕ → F) → F
sum_but o x n f = sum_to o n (λ m. cond (m == x) o.zero (f m))

-- THE ROW RULE: the value at the symbol numbered m of the polynomial of degree below k through row i of d
unfoldable pub row_symbol : {F : Type 0} → Operations F → (ℕ → F) → Parameters → (ℕ → ℕ → F) → ℕ → ℕ → F
row_symbol o symbol s d i m = interpolate o symbol s.k (d i) (symbol m)

-- the symbols at m = 1, .., k - t - 1 places past the diagonal in row i
unfoldable pub past : {F : Type 0} → Operations F → Parameters → (ℕ → ℕ → F) → ℕ → ℕ → F
past o s d i t = sum_to o (s.k - t - 1) (λ m. d i (wrap s (i + m)))

-- THE CODE ARRAY: its symbol in row i at node m
unfoldable pub array : {F : Type 0} → Operations F → (ℕ → F) → Parameters → (ℕ → ℕ → F) → ℕ → ℕ → F
array o symbol s d i m =
    cond (nat_lt m s.k) (d i m)
    (cond (nat_lt m (first_step s)) (row_symbol o symbol s d i m)
    (cond (nat_le (step_of s m) s.tau) (o.sum (row_symbol o symbol s d i m) (d (wrap s (i + step_of s m)) i))
    (o.sum (d (wrap s (i + step_of s m)) i) (past o s d i (step_of s m)))))
