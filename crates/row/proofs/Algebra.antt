-- What follows from the laws of a field. Assumes nothing.
use Rattle.std.proofs.Common.{◌≡◌, sym, ap, ◌∙◌, ap₂}
use Rattle.field.specs.Laws.{Operations, FieldLaws}

module _ {F : Type 0} {o : Operations F} (laws : FieldLaws o) where
  open o use {zero as 𝟘, one as 𝟙, sum as ◌⊕◌, product as ◌⊗◌, difference as ◌⊖◌, inverse}

  infixl 60 ◌⊕◌
  infixl 60 ◌⊖◌
  infixl 70 ◌⊗◌
  -- the laws once more, as lemmas that a set of rules can name
  pub sum_comm : (u v : F) → u ⊕ v ≡ v ⊕ u
  sum_comm = laws.sum_comm

  pub sum_assoc : (u v w : F) → (u ⊕ v) ⊕ w ≡ u ⊕ (v ⊕ w)
  sum_assoc = laws.sum_assoc

  pub sum_left_comm : (u v w : F) → u ⊕ (v ⊕ w) ≡ v ⊕ (u ⊕ w)
  sum_left_comm u v w = sym (sum_assoc u v w) ∙ ap (λ t. t ⊕ w) (sum_comm u v) ∙ sum_assoc v u w

  pub sum_zero : (u : F) → u ⊕ 𝟘 ≡ u
  sum_zero = laws.sum_zero

  pub zero_sum : (u : F) → 𝟘 ⊕ u ≡ u
  zero_sum u = sum_comm 𝟘 u ∙ sum_zero u

  pub cancel_right : (u v w : F) → u ⊕ w ≡ v ⊕ w → u ≡ v
  cancel_right u v w e =
      let n = 𝟘 ⊖ w in
      let z : w ⊕ n ≡ 𝟘 = sum_comm w n ∙ laws.sub_add 𝟘 w in
      let f : (t : F) → t ≡ (t ⊕ w) ⊕ n = λ t. sym (sum_assoc t w n ∙ ap (λ s. t ⊕ s) z ∙ sum_zero t) in
      f u ∙ ap (λ s. s ⊕ n) e ∙ sym (f v)

  pub cancel_left : (u v w : F) → w ⊕ u ≡ w ⊕ v → u ≡ v
  cancel_left u v w e = cancel_right u v w (sum_comm u w ∙ e ∙ sum_comm w v)

  pub product_comm : (u v : F) → u ⊗ v ≡ v ⊗ u
  product_comm = laws.product_comm

  pub product_assoc : (u v w : F) → (u ⊗ v) ⊗ w ≡ u ⊗ (v ⊗ w)
  product_assoc = laws.product_assoc

  pub product_left_comm : (u v w : F) → u ⊗ (v ⊗ w) ≡ v ⊗ (u ⊗ w)
  product_left_comm u v w = sym (product_assoc u v w) ∙ ap (λ t. t ⊗ w) (product_comm u v) ∙ product_assoc v u w

  pub product_one : (u : F) → u ⊗ 𝟙 ≡ u
  product_one = laws.product_one

  pub one_product : (u : F) → 𝟙 ⊗ u ≡ u
  one_product u = product_comm 𝟙 u ∙ product_one u

  pub distributes : (u v w : F) → u ⊗ (v ⊕ w) ≡ (u ⊗ v) ⊕ (u ⊗ w)
  distributes = laws.distributes

  pub distributes_right : (u v w : F) → (u ⊕ v) ⊗ w ≡ (u ⊗ w) ⊕ (v ⊗ w)
  distributes_right u v w = product_comm (u ⊕ v) w ∙ distributes w u v ∙ ap₂ ◌⊕◌ (product_comm w u) (product_comm w v)

  pub product_zero : (u : F) → u ⊗ 𝟘 ≡ 𝟘
  product_zero u = cancel_left (u ⊗ 𝟘) 𝟘 (u ⊗ 𝟘) (sym (distributes u 𝟘 𝟘) ∙ ap (λ t. u ⊗ t) (sum_zero 𝟘) ∙ sym (sum_zero (u ⊗ 𝟘)))

  pub zero_product : (u : F) → 𝟘 ⊗ u ≡ 𝟘
  zero_product u = product_comm 𝟘 u ∙ product_zero u

  pub sub_add : (u v : F) → (u ⊖ v) ⊕ v ≡ u
  sub_add = laws.sub_add

  -- sums and products in one order: `simp (ring laws)`
  pub ruleset products = (product_comm, product_assoc, product_left_comm, product_one, one_product, product_zero, zero_product)

  pub ruleset ring = (sum_comm, sum_assoc, sum_left_comm, sum_zero, zero_sum, products, distributes, distributes_right)

  pub difference_unique : (u v w : F) → w ⊕ v ≡ u → w ≡ u ⊖ v
  difference_unique u v w e = cancel_right w (u ⊖ v) v (e ∙ sym (sub_add u v))

  pub difference_zero : (u v : F) → u ⊖ v ≡ 𝟘 → u ≡ v
  difference_zero u v e = sym (sub_add u v) ∙ ap (λ t. t ⊕ v) e ∙ zero_sum v

  pub self_difference : (u : F) → u ⊖ u ≡ 𝟘
  self_difference u = sym (difference_unique u u 𝟘 (zero_sum u))

  -- no divisors of zero
  pub no_divisors : (u v : F) → (u ≡ 𝟘 → ⊥) → u ⊗ v ≡ 𝟘 → v ≡ 𝟘
  no_divisors u v n e =
      let a : v ⊗ (u ⊗ inverse u) ≡ inverse u ⊗ (u ⊗ v) = simp products in
      sym (product_one v) ∙ ap (λ t. v ⊗ t) (sym (laws.inverse_of u n)) ∙ a ∙ ap (λ t. inverse u ⊗ t) e ∙ product_zero (inverse u)

module _ {F : Type 0} {o : Operations F} (laws : FieldLaws o) where
  open o use {zero as 𝟘, one as 𝟙, sum as ◌⊕◌, product as ◌⊗◌, difference as ◌⊖◌, inverse}

  infixl 60 ◌⊕◌
  infixl 60 ◌⊖◌
  infixl 70 ◌⊗◌
  pub product_apart : (u v : F) → (u ≡ 𝟘 → ⊥) → (v ≡ 𝟘 → ⊥) → u ⊗ v ≡ 𝟘 → ⊥
  product_apart u v nu nv e = nv (no_divisors laws u v nu e)

  pub one_apart : 𝟙 ≡ 𝟘 → ⊥
  one_apart e = laws.differ (sym e)
