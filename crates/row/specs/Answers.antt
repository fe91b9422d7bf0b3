-- What the calls answer, declined ones included. Assumes nothing.
use Rattle.std.specs.Prelude.{◌≡◌, ℕ, ◌<◌, Bool, false, cond, ◌||◌, List, [], ◌∷◌, length, Ok, Err, Option, Result, ◌==◌, nat_le, nat_lt}
use Rattle.field.specs.Laws.{Operations}
use Rattle.row.specs.Polynomial.{value}
use Rattle.row.specs.RowRule.{stands, RowPolynomial, row_symbol, Within, Different, Taken, rebuilt, weight_of}
use Rattle.row.specs.declared.fault.RowFault.{RowFault}
use Rattle.row.specs.declared.fault.RowFault.TheVariants.{TooMany, NoSymbol, NotData, Repeated, Uneven}

-- the row's symbol at number m, or why there is none
abbrev pub symbol_answer : {F : Type 0} → Operations F → ℕ → (ℕ → Option F) → List F → ℕ → Result F RowFault
symbol_answer o size symbol d m =
    cond (nat_lt size (length d)) (Err TooMany) (cond (nat_lt m size) (Ok (row_symbol o symbol d m)) (Err NoSymbol))

-- the weight at number m of the data symbol j of k, or why there is none
abbrev pub weight_answer : {F : Type 0} → Operations F → ℕ → (ℕ → Option F) → ℕ → ℕ → ℕ → Result F RowFault
weight_answer o size symbol k j m =
    cond (nat_lt size k) (Err TooMany) (cond (nat_lt j k) (cond (nat_lt m size) (Ok (weight_of o symbol k j m)) (Err NoSymbol)) (Err NotData))

-- whether n is among the numbers
abbrev pub listed : ℕ → List ℕ → Bool
listed n [] = false
listed n (m ∷ ms) = n == m || listed n ms

-- whether a number is listed twice
abbrev pub repeated : List ℕ → Bool
repeated [] = false
repeated (n ∷ ns) = listed n ns || repeated ns

-- whether a number is not below the size
abbrev pub beyond : ℕ → List ℕ → Bool
beyond size [] = false
beyond size (n ∷ ns) = nat_le size n || beyond size ns

-- the symbol at number m from the values at the listed numbers, or why there is none
abbrev pub rebuild_answer : {F : Type 0} → Operations F → ℕ → (ℕ → Option F) → List ℕ → List F → ℕ → Result F RowFault
rebuild_answer o size symbol numbers values m =
    cond (length numbers == length values)
    (cond (beyond size numbers || nat_le size m) (Err NoSymbol) (cond (repeated numbers) (Err Repeated) (Ok (rebuilt o symbol numbers values m))))
    (Err Uneven)

-- any k different numbers' symbols of a row give all of it: if the values are those of the row of d at k different numbers,
-- the answer is the row's symbol at m
abbrev pub AnyGiveAll : {F : Type 0} → Operations F → ℕ → (ℕ → Option F) → List ℕ → List F → ℕ → Result F RowFault → Type 0
AnyGiveAll {F} o size symbol numbers values m answer =
    (d p : List F) → RowPolynomial o symbol d p → length numbers ≡ length d → length values ≡ length d → Within size numbers
    → Different numbers → m < size → Taken o symbol p numbers values → answer ≡ Ok (value o p (stands o symbol m))
