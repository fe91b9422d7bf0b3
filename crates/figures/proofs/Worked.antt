-- The worked figures, computed. Assumes nothing.
use Rattle.std.proofs.Common.{◌≡◌, ℕ, ◌+◌, ◌-◌, ◌*◌, ◌<◌, ◌≤◌, cond, ltb, [], ◌∷◌, length, sym, refl, ◌∙◌, subst, arith}
use Rattle.field.specs.declared.decimal.Decimal.TheVariants.{One, Two, Three, Four, Five, Six, Seven, Eight, Nine, Ten}
use Rattle.byte.specs.Polynomial.{multiply, times_x, remainder}
use Rattle.byte.specs.Bytes.{byte, byte_product, byte_operations}
use Rattle.sheet.specs.Places.{at, listed, with_place, distinct_from, distinct, places_of, sheet_of}
use Rattle.array.specs.declared.parameters.Parameters.{Parameters}
use Rattle.array.specs.declared.fault.ParameterFault.TheVariants.{ClassB, SmallField}
use Rattle.array.specs.Checks.{declined, declined_over}
use Rattle.array.specs.Each.{each}
use Rattle.array.specs.Symbols.{sum_to, row_symbol, past, array}
use Rattle.array.specs.Sheet.{row_places, step_places, local_places, far_places, entries, mend_entries, node_sheet}
use Rattle.array.proofs.Size.{sized, sized_rows}
use Rattle.figures.specs.Figures.{Has, file_row, DataSheets, DeclinedWith, Figures}

-- what holds of the parameters k, a, tau, b holds of all that have them
by_numbers : (Goal : Parameters → Type 0) (k a tau b : ℕ)
    → ((wide : (3 ≤ k) × (k ≤ 32)) (spare : (2 ≤ a) × (a < k)) (carried : (1 ≤ tau) × (tau < a)) (stepped : tau + b < k)
    → Goal (record { k = k; a = a; tau = tau; b = b; wide = wide; spare = spare; carried = carried; stepped = stepped }))
    → (s : Parameters) → Has s k a tau b → Goal s
by_numbers Goal k a tau b h s is = go s.k is.data_nodes s.a is.class_a s.tau is.piggybacked s.b is.class_b s.wide s.spare s.carried s.stepped
  where
    Made : ℕ → ℕ → ℕ → ℕ → Type 0
    Made k a tau b =
        (wide : (3 ≤ k) × (k ≤ 32)) (spare : (2 ≤ a) × (a < k)) (carried : (1 ≤ tau) × (tau < a)) (stepped : tau + b < k)
        → Goal (record { k = k; a = a; tau = tau; b = b; wide = wide; spare = spare; carried = carried; stepped = stepped })

    go : (k' : ℕ) → k' ≡ k → (a' : ℕ) → a' ≡ a → (tau' : ℕ) → tau' ≡ tau → (b' : ℕ) → b' ≡ b → Made k' a' tau' b'
    go k' e a' f t' g b' i =
        subst (λ k. Made k a' t' b') (sym e) (subst (λ a. Made k a t' b') (sym f) (subst (λ t. Made k a t b') (sym g) (subst (λ b. Made k a tau b) (sym i) h)))

-- the sizes, by the formula
abbrev size_of : ℕ → ℕ → ℕ → ℕ
size_of k tau b = k + tau + b + (k - (tau + b)) * (k - (tau + b) - 1) - cond (ltb (tau + b + (tau + b)) k) 1 0

by_formula : (k a tau b n : ℕ) → 1 ≤ b → size_of k tau b ≡ n → DataSheets k a tau b n
by_formula k a tau b n some e s is j h =
    by_numbers (λ s. 1 ≤ s.b → (j : ℕ) → j < s.k → length (node_sheet s j) ≡ n) k a tau b
    (λ w x y z some j h. sized (record { k = k; a = a; tau = tau; b = b; wide = w; spare = x; carried = y; stepped = z }) some j h ∙ e)
    s is (subst (λ b. 1 ≤ b) (sym is.class_b) some) j (subst (λ k. j < k) (sym is.data_nodes) h)

-- and where no node is of Class B
by_rows : (k a tau n : ℕ) → k + tau + (k - tau - 1) * k ≡ n → DataSheets k a tau 0 n
by_rows k a tau n e s is j h =
    by_numbers (λ s. s.b ≡ 0 → (j : ℕ) → j < s.k → length (node_sheet s j) ≡ n) k a tau 0
    (λ w x y z none j h. sized_rows (record { k = k; a = a; tau = tau; b = 0; wide = w; spare = x; carried = y; stepped = z }) none j h ∙ e)
    s is is.class_b j (subst (λ k. j < k) (sym is.data_nodes) h)

rows_are : (s : Parameters) → Has s 4 2 1 1
    → (file_row s 0 ≡ Three ∷ One ∷ Four ∷ One ∷ Three ∷ Four ∷ Six ∷ [])
    × (file_row s 1 ≡ Five ∷ Nine ∷ Two ∷ Six ∷ Ten ∷ Six ∷ Nine ∷ [])
    × (file_row s 2 ≡ Five ∷ Three ∷ Five ∷ Eight ∷ Nine ∷ Three ∷ One ∷ [])
    × (file_row s 3 ≡ Nine ∷ Seven ∷ Nine ∷ Three ∷ Ten ∷ Eight ∷ Four ∷ [])
unfolding file_row sum_to row_symbol past array
rows_are =
    by_numbers
    (λ s.
    (file_row s 0 ≡ Three ∷ One ∷ Four ∷ One ∷ Three ∷ Four ∷ Six ∷ [])
    × (file_row s 1 ≡ Five ∷ Nine ∷ Two ∷ Six ∷ Ten ∷ Six ∷ Nine ∷ [])
    × (file_row s 2 ≡ Five ∷ Three ∷ Five ∷ Eight ∷ Nine ∷ Three ∷ One ∷ [])
    × (file_row s 3 ≡ Nine ∷ Seven ∷ Nine ∷ Three ∷ Ten ∷ Eight ∷ Four ∷ [])) 4 2 1 1 (λ w x y z. (refl, refl, refl, refl))

mend_is : (s : Parameters) → Has s 4 2 1 1 → node_sheet s 1 ≡ at 1 0 ∷ at 1 2 ∷ at 1 3 ∷ at 1 4 ∷ at 1 5 ∷ at 1 6 ∷ at 0 6 ∷ at 2 0 ∷ []
unfolding listed with_place distinct_from distinct places_of sheet_of each row_places step_places local_places far_places entries mend_entries node_sheet
mend_is = by_numbers (λ s. node_sheet s 1 ≡ at 1 0 ∷ at 1 2 ∷ at 1 3 ∷ at 1 4 ∷ at 1 5 ∷ at 1 6 ∷ at 0 6 ∷ at 2 0 ∷ []) 4 2 1 1 (λ w x y z. refl)

class_b_declined : DeclinedWith (declined 4 2 1 3) 14
unfolding declined
class_b_declined = (ClassB, refl, refl)

field_declined : DeclinedWith (declined_over 11 8 4 3 2) 15
unfolding declined declined_over
field_declined = (SmallField, refl, refl)

product_is : byte_operations.product (byte 2) (byte 128) ≡ byte 29
unfolding byte byte_product multiply times_x remainder
product_is = refl

pub figures : Figures
unfolding declined declined_over
figures = record {
  rows = rows_are;
  mend_1 = mend_is;
  sheet_4211 = by_formula 4 2 1 1 8 (omega arith) refl;
  sheet_4212 = by_formula 4 2 1 2 7 (omega arith) refl;
  sheet_5210 = by_rows 5 2 1 21 refl;
  sheet_5211 = by_formula 5 2 1 1 12 (omega arith) refl;
  sheet_5213 = by_formula 5 2 1 3 9 (omega arith) refl;
  sheet_6321 = by_formula 6 3 2 1 15 (omega arith) refl;
  sheet_8432 = by_formula 8 4 3 2 19 (omega arith) refl;
  accepted_4211 = refl;
  accepted_4212 = refl;
  accepted_5210 = refl;
  accepted_5211 = refl;
  accepted_5213 = refl;
  accepted_6321 = refl;
  accepted_8432 = refl;
  too_many = class_b_declined;
  small_field = field_declined;
  byte_product = product_is;
  decimal_inverse = refl;
}
