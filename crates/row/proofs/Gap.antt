-- One value is missing among k, and one more value of the row is known: the missing one. Assumes nothing.
use Rattle.std.proofs.Common.{◌≡◌, ℕ, ◌<◌, cond, eqb, List, length, sym, refl, ap, ◌∙◌, subst, ⊎_elim}
use Rattle.std.proofs.lemmas.Bool.{eq-eqb, ne_eqb, cases_eq, cond-true, cond-false}
use Rattle.field.specs.Laws.{Operations, FieldLaws}
use Rattle.row.specs.Polynomial.{value}
use Rattle.row.specs.Interpolation.{factor, others, basis, interpolate, Apart}
use Rattle.row.proofs.Algebra.{zero_sum, sum_comm, product_zero, product_one, product_assoc, difference_unique, difference_zero, product_apart, one_apart}
use Rattle.row.proofs.Lagrange.{factor_same, factor_other, product_apart_below, row_rule, change, others_apart}

module _ {F : Type 0} {o : Operations F} (laws : FieldLaws o) (point : ℕ → F) (k : ℕ) (apart : Apart point k) where
  open o use {zero as 𝟘, one as 𝟙, sum as ◌⊕◌, product as ◌⊗◌, difference as ◌⊖◌, inverse}

  infixl 60 ◌⊕◌
  infixl 60 ◌⊖◌
  infixl 70 ◌⊗◌
  inverse_apart : (u : F) → (u ≡ 𝟘 → ⊥) → inverse u ≡ 𝟘 → ⊥
  inverse_apart u n e = one_apart laws (sym (laws.inverse_of u n) ∙ ap (λ t. u ⊗ t) e ∙ product_zero laws u)

  others_apart_at : (l : ℕ) (x : F) → ((m : ℕ) → m < k → x ≡ point m → ⊥) → others o point k l x ≡ 𝟘 → ⊥
  others_apart_at l x new =
      product_apart_below laws (factor o point l x) k
      (λ m b z.
      ⊎_elim
      (λ e. one_apart laws (sym (factor_same laws point l x) ∙ subst (λ t. factor o point l x t ≡ 𝟘) e z))
      (λ d. new m b (difference_zero laws _ _ (sym (factor_other laws point l m x d) ∙ z)))
      (cases_eq m l))

  -- at a point that is none of the k, no value counts for nothing
  pub basis_apart : (l : ℕ) → l < k → (x : F) → ((m : ℕ) → m < k → x ≡ point m → ⊥) → basis o point k l x ≡ 𝟘 → ⊥
  basis_apart l h x new =
      product_apart laws _ _ (others_apart_at l x new) (inverse_apart _ (others_apart laws point k apart l h))

  divided : (u b w y : F) → (b ≡ 𝟘 → ⊥) → w ⊕ u ⊗ b ≡ y → u ≡ (y ⊖ w) ⊗ inverse b
  divided u b w y n e =
      sym (ap (λ t. t ⊗ inverse b) (sym (difference_unique laws y w (u ⊗ b) (sum_comm laws (u ⊗ b) w ∙ e)))
      ∙ product_assoc laws u b (inverse b) ∙ ap (λ t. u ⊗ t) (laws.inverse_of b n) ∙ product_one laws u)

  pub solved : (given : ℕ → F) (gap : ℕ) → gap < k → given gap ≡ 𝟘 → (x : F) → ((m : ℕ) → m < k → x ≡ point m → ⊥)
      → (p : List F) → length p ≡ k → ((l : ℕ) → l < k → (l ≡ gap → ⊥) → value o p (point l) ≡ given l)
      → value o p (point gap) ≡ (value o p x ⊖ interpolate o point k given x) ⊗ inverse (basis o point k gap x)
  solved given gap h empty x new p degree at =
      let v = value o p (point gap) in
      let full : ℕ → F = λ l. cond (eqb l gap) (given l ⊕ v) (given l) in
      let meets : (l : ℕ) → l < k → value o p (point l) ≡ full l
      = λ l b.
      ⊎_elim
      (λ e. subst (λ t. value o p (point t) ≡ full t) (sym e)
      (sym (cond-true (eqb gap gap) _ _ (eq-eqb gap gap refl) ∙ ap (λ t. t ⊕ v) empty ∙ zero_sum laws v)))
      (λ d. at l b d ∙ sym (cond-false (eqb l gap) _ _ (ne_eqb l gap d)))
      (cases_eq l gap) in
      divided v (basis o point k gap x) _ _ (basis_apart gap h x new)
      (sym (row_rule laws point k apart full p degree meets x ∙ change laws point k given gap v x h))
