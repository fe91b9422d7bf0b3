-- The row rule. For k symbols d(0), .., d(k - 1) take the polynomial of degree below k whose value at the symbol numbered j
-- is d(j); the row's symbol at number m is its value at the symbol numbered m. Assumes nothing.
use Rattle.std.specs.Prelude.{◌≡◌, ℕ, ◌<◌, ◌≤◌, List, length, get_or, Option, slice_index, slice_index_or, slice_set}
use Rattle.field.specs.Laws.{Operations}
use Rattle.row.specs.Polynomial.{value}
use Rattle.row.specs.Interpolation.{basis, interpolate}
use Rattle.row.specs.Numbered.{numbered}

-- the symbol at which number m of a row stands: the one numbered m
abbrev pub stands : {F : Type 0} → Operations F → (ℕ → Option F) → ℕ → F
stands o symbol = numbered o.zero symbol

-- p is a polynomial of the row of d: it has as many coefficients as d has symbols, and its value at the symbol numbered j is d(j)
pub record RowPolynomial {F : Type 0} (o : Operations F) (symbol : ℕ → Option F) (d p : List F) : Type 0 where
  pub degree : length p ≡ length d
  pub values : (j : ℕ) → j < length d → value o p (stands o symbol j) ≡ slice_index_or d j o.zero

-- how the row's symbol at number m is computed: by Lagrange's formula
abbrev pub row_symbol : {F : Type 0} → Operations F → (ℕ → Option F) → List F → ℕ → F
row_symbol o symbol d m = interpolate o (stands o symbol) (length d) (λ j. get_or d j o.zero) (stands o symbol m)

-- the polynomial of the row of d exists and is unique, and what is computed is its value
pub record RowRule {F : Type 0} (o : Operations F) (symbol : ℕ → Option F) (d : List F) : Type 0 where
  pub polynomial : List F
  pub exists : RowPolynomial o symbol d polynomial
  pub unique : (p : List F) → RowPolynomial o symbol d p → p ≡ polynomial
  pub computed : (m : ℕ) → row_symbol o symbol d m ≡ value o polynomial (stands o symbol m)

-- the listed numbers are below the size
abbrev pub Within : ℕ → List ℕ → Type 0
Within size numbers = (l : ℕ) → l < length numbers → slice_index numbers l < size

-- no number is listed twice
abbrev pub Different : List ℕ → Type 0
Different numbers = (i l : ℕ) → i < length numbers → l < length numbers → slice_index numbers i ≡ slice_index numbers l → i ≡ l

-- the values are those of the polynomial p at the symbols with the listed numbers
abbrev pub Taken : {F : Type 0} → Operations F → (ℕ → Option F) → List F → List ℕ → List F → Type 0
Taken o symbol p numbers values =
    (l : ℕ) → l < length numbers → slice_index_or values l o.zero ≡ value o p (stands o symbol (slice_index numbers l))

-- the symbols at which the listed numbers stand
abbrev pub points : {F : Type 0} → Operations F → (ℕ → Option F) → List ℕ → ℕ → F
points o symbol numbers l = stands o symbol (slice_index numbers l)

-- how the symbol at number m is computed from the symbols at the listed numbers
abbrev pub rebuilt : {F : Type 0} → Operations F → (ℕ → Option F) → List ℕ → List F → ℕ → F
rebuilt o symbol numbers values m =
    interpolate o (points o symbol numbers) (length numbers) (λ l. get_or values l o.zero) (stands o symbol m)

-- what the data symbol j of k counts at number m
abbrev pub weight_of : {F : Type 0} → Operations F → (ℕ → Option F) → ℕ → ℕ → ℕ → F
weight_of o symbol k j m = basis o (stands o symbol) k j (stands o symbol m)

-- what one data symbol counts, by the difference of the new and the old one, turns the row's symbol before the change into
-- the one after it: for every row of k symbols, whatever the others are
abbrev pub Replacing : {F : Type 0} → Operations F → ℕ → (ℕ → Option F) → F → F → F → F → F → Type 0
Replacing {F} o size symbol weight old new before after =
    (d p q : List F) (j m : ℕ) → length d ≤ size → j < length d → weight ≡ weight_of o symbol (length d) j m
    → slice_index_or d j o.zero ≡ old → RowPolynomial o symbol d p → RowPolynomial o symbol (slice_set d j new) q
    → before ≡ value o p (stands o symbol m) → after ≡ value o q (stands o symbol m)
