-- The weights of the row rule: what each of k known symbols of a row counts at another node. Assumes nothing.
use Rattle.std.specs.Prelude.{◌≡◌, ℕ, ◌<◌, cond, List, nat_lt, slice_index}
use Rattle.field.specs.Laws.{Operations}
use Rattle.row.specs.Interpolation.{basis}
use Rattle.array.specs.declared.parameters.Parameters.{Parameters}
use Rattle.array.specs.Layout.{skip}

-- what the symbol of the node listed at l counts at node m, where the nodes are 0, .., k but gap
abbrev pub weight_at : {F : Type 0} → Operations F → (ℕ → F) → ℕ → ℕ → ℕ → ℕ → F
weight_at o symbol k gap m l = basis o (λ l. symbol (skip gap l)) k l (symbol m)

-- these are the k weights, each by its number
abbrev pub Weighs : {F : Type 0} → Operations F → (ℕ → F) → ℕ → ℕ → ℕ → List ℕ → Type 0
Weighs o symbol k gap m weights = (l : ℕ) → l < k → symbol (slice_index weights l) ≡ weight_at o symbol k gap m l

-- which of the nodes 0, .., k a mend of node m leaves out: a data node itself, and for the others the first Class A node
abbrev pub mend_gap : Parameters → ℕ → ℕ
mend_gap p m = cond (nat_lt m p.k) m p.k
