-- Weights: what each known symbol of a row counts at one number. They are computed once and serve every row. Assumes nothing.
use Rattle.std.specs.Prelude.{◌≡◌, ℕ, ◌≤◌, cond, List, map, length, Option, nat_lt, slice_index_or}
use Rattle.std.specs.List.{range_with_len}
use Rattle.field.specs.Laws.{Operations}
use Rattle.row.specs.Polynomial.{value}
use Rattle.row.specs.Interpolation.{sum_below, basis}
use Rattle.row.specs.RowRule.{stands, points, weight_of, row_symbol, Within, Different, Taken}

-- the sum of the values, each times its weight; a value that is missing counts as zero
abbrev pub weighed : {F : Type 0} → Operations F → List F → List F → F
weighed o weights values = sum_below o (length weights) (λ l. o.product (slice_index_or values l o.zero) (slice_index_or weights l o.zero))

-- what each of k data symbols counts at number m
abbrev pub data_weights : {F : Type 0} → Operations F → (ℕ → Option F) → ℕ → ℕ → List F
data_weights o symbol k m = map (λ j. weight_of o symbol k j m) (range_with_len 0 k)

-- they serve every row of k symbols
abbrev pub ServeData : {F : Type 0} → Operations F → (ℕ → Option F) → ℕ → List F → Type 0
ServeData {F} o symbol m weights =
    (d : List F) → length d ≡ length weights → weighed o weights d ≡ row_symbol o symbol d m

-- what the symbol at the number listed at l counts at number m; a place past the list counts nothing
abbrev pub listed_weight : {F : Type 0} → Operations F → (ℕ → Option F) → List ℕ → ℕ → ℕ → F
listed_weight o symbol numbers m l =
    cond (nat_lt l (length numbers)) (basis o (points o symbol numbers) (length numbers) l (stands o symbol m)) o.zero

-- the first n of these
abbrev pub listed_weights : {F : Type 0} → Operations F → (ℕ → Option F) → List ℕ → ℕ → ℕ → List F
listed_weights o symbol numbers m n = map (listed_weight o symbol numbers m) (range_with_len 0 n)

-- they serve every polynomial of degree below k of which k symbols at different numbers are known
abbrev pub ServeListed : {F : Type 0} → Operations F → ℕ → (ℕ → Option F) → List ℕ → ℕ → List F → Type 0
ServeListed {F} o size symbol numbers m weights =
    (values p : List F) → length p ≡ length numbers → length numbers ≤ length weights → Within size numbers → Different numbers
    → Taken o symbol p numbers values → weighed o weights values ≡ value o p (stands o symbol m)
