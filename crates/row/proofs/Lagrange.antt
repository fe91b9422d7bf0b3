-- Lagrange's formula is a polynomial of degree below k that meets the k values, so it is every such polynomial's value.
-- Assumes nothing.
use Rattle.std.proofs.Common.{◌≡◌, ℕ, zero, suc, ◌+◌, ◌<◌, ◌≤◌, Bool, true, false, cond, eqb, List, [], ◌∷◌, length, sym, refl, ap, ◌∙◌, subst, ap₂, ⊎_elim, add-one, arith}
use Rattle.std.proofs.lemmas.Bool.Decides.{nat_tests}
use Rattle.std.proofs.lemmas.Bool.{eq-eqb, ne_eqb, cases_eq, cond-true, cond-false}
use Rattle.field.specs.Laws.{Operations, FieldLaws}
use Rattle.row.specs.Polynomial.{value}
use Rattle.row.specs.Interpolation.{sum_below, product_below, factor, others, basis, interpolate, Apart, Meets}
use Rattle.row.proofs.Algebra.{ring, sub_add, zero_sum, sum_zero, product_zero, zero_product, product_one, difference_unique, difference_zero, self_difference, product_apart, one_apart, distributes_right}
use Rattle.row.proofs.Polynomial.{zeros, value_zeros, plus, scale, length_plus, length_scale, value_plus, value_scale, unique}

-- f is a polynomial of degree below k
abbrev pub Poly : {F : Type 0} → Operations F → ℕ → (F → F) → Type 0
Poly {F} o k f = (p : List F) × (length p ≡ k) × ((x : F) → value o p x ≡ f x)

length_zeros : {F : Type 0} (o : Operations F) (k : ℕ) → length (zeros o k) ≡ k
length_zeros o zero = refl
length_zeros o (suc k) = ap suc (length_zeros o k)

module _ {F : Type 0} {o : Operations F} (laws : FieldLaws o) where
  open o use {zero as 𝟘, one as 𝟙, sum as ◌⊕◌, product as ◌⊗◌, difference as ◌⊖◌, inverse}

  infixl 60 ◌⊕◌
  infixl 60 ◌⊖◌
  infixl 70 ◌⊗◌
  -- what is a polynomial, and of which degree

  poly_zero : (k : ℕ) → Poly o k (λ _. 𝟘)
  poly_zero k = (zeros o k, length_zeros o k, value_zeros laws k)

  poly_one : Poly o 1 (λ _. 𝟙)
  poly_one = (𝟙 ∷ [], refl, λ x. ap (λ t. 𝟙 ⊕ t) (product_zero laws x) ∙ sum_zero laws 𝟙)

  poly_sum : (k : ℕ) (f g : F → F) → Poly o k f → Poly o k g → Poly o k (λ x. f x ⊕ g x)
  poly_sum k f g (p, ep, vp) (q, eq, vq) = (plus o p q, length_plus o p q (omega arith) ∙ eq, λ x. value_plus laws p q x ∙ ap₂ ◌⊕◌ (vp x) (vq x))

  poly_scale : (k : ℕ) (s : F) (f : F → F) → Poly o k f → Poly o k (λ x. s ⊗ f x)
  poly_scale k s f (p, ep, vp) = (scale o s p, length_scale o s p ∙ ep, λ x. value_scale laws s p x ∙ ap (λ t. s ⊗ t) (vp x))

  poly_linear : (k : ℕ) (a : F) (f : F → F) → Poly o k f → Poly o (suc k) (λ x. f x ⊗ (x ⊖ a))
  poly_linear k a f (p, ep, vp) =
      let n = 𝟘 ⊖ a in (
        plus o (scale o n p) (𝟘 ∷ p),
        length_plus o (scale o n p) (𝟘 ∷ p) (omega (arith, length_scale o n p)) ∙ ap suc ep,
        λ x. value_plus laws (scale o n p) (𝟘 ∷ p) x ∙ ap (λ t. t ⊕ (𝟘 ⊕ x ⊗ value o p x)) (value_scale laws n p x) ∙ ap (λ t. n ⊗ t ⊕ (𝟘 ⊕ x ⊗ t)) (vp x) ∙ shift x (f x),
      )
    where
      shift : (x v : F) → (𝟘 ⊖ a) ⊗ v ⊕ (𝟘 ⊕ x ⊗ v) ≡ v ⊗ (x ⊖ a)
      shift x v =
          let e : (x ⊕ (𝟘 ⊖ a)) ⊕ a ≡ x ⊕ ((𝟘 ⊖ a) ⊕ a) = simp (ring, laws) in
          let d : x ⊕ (𝟘 ⊖ a) ≡ x ⊖ a = difference_unique laws x a _ (e ∙ ap (λ t. x ⊕ t) (sub_add laws 𝟘 a) ∙ sum_zero laws x) in
          let r : (𝟘 ⊖ a) ⊗ v ⊕ (𝟘 ⊕ x ⊗ v) ≡ v ⊗ (x ⊕ (𝟘 ⊖ a)) = simp (ring, laws) in
          r ∙ ap (λ t. v ⊗ t) d

  module _ (point : ℕ → F) where
    pub factor_same : (l : ℕ) (x : F) → factor o point l x l ≡ 𝟙
    factor_same l x = grind (arith, nat_tests)

    pub factor_other : (l m : ℕ) (x : F) → (m ≡ l → ⊥) → factor o point l x m ≡ x ⊖ point m
    factor_other l m x n = grind (arith, nat_tests)

  poly_as : (k : ℕ) (f g : F → F) → ((x : F) → f x ≡ g x) → Poly o k f → Poly o k g
  poly_as k f g h (p, ep, vp) = (p, ep, λ x. vp x ∙ h x)

  -- the product over m below n, before l and past it
  poly_before : (point : ℕ → F) (l n : ℕ) → n ≤ l → Poly o (suc n) (λ x. others o point n l x)
  poly_before point l zero h = poly_one
  poly_before point l (suc n) h =
      poly_as (suc (suc n)) _ _ (λ x. ap (λ t. others o point n l x ⊗ t) (sym (factor_other point l n x (omega arith))))
      (poly_linear (suc n) (point n) _ (poly_before point l n (omega arith)))

  poly_past : (point : ℕ → F) (l n : ℕ) → l < n → Poly o n (λ x. others o point n l x)
  poly_past point l zero h = absurd (omega arith)
  poly_past point l (suc n) h =
      ⊎_elim
      (λ e. poly_as (suc n) _ _ (λ x. sym (ap (λ t. others o point n l x ⊗ t) (subst (λ t. factor o point l x t ≡ 𝟙) (sym e) (factor_same point l x)) ∙ product_one laws _))
      (poly_before point l n (omega arith)))
      (λ d. poly_as (suc n) _ _ (λ x. ap (λ t. others o point n l x ⊗ t) (sym (factor_other point l n x d)))
      (poly_linear n (point n) _ (poly_past point l n (omega arith))))
      (cases_eq n l)

  poly_basis : (point : ℕ → F) (k l : ℕ) → l < k → Poly o k (λ x. basis o point k l x)
  poly_basis point k l h =
      poly_as k _ _ (λ x. laws.product_comm _ (others o point k l x))
      (poly_scale k (inverse (others o point k l (point l))) _ (poly_past point l k h))

  poly_below : (k n : ℕ) (f : ℕ → F → F) → ((l : ℕ) → l < n → Poly o k (f l)) → Poly o k (λ x. sum_below o n (λ l. f l x))
  poly_below k zero f h = poly_zero k
  poly_below k (suc n) f h = poly_sum k _ _ (poly_below k n f (λ l b. h l (omega arith))) (h n (omega arith))

  pub poly_interpolate : (point : ℕ → F) (k : ℕ) (given : ℕ → F) → Poly o k (interpolate o point k given)
  poly_interpolate point k given =
      poly_below k k (λ l x. given l ⊗ basis o point k l x) (λ l h. poly_scale k (given l) _ (poly_basis point k l h))

  -- what its values at the points are

  product_zero_at : (f : ℕ → F) (n j : ℕ) → j < n → f j ≡ 𝟘 → product_below o n f ≡ 𝟘
  product_zero_at f zero j h e = absurd (omega arith)
  product_zero_at f (suc n) j h e =
      ⊎_elim
      (λ s. ap (λ t. product_below o n f ⊗ t) (subst (λ t. f t ≡ 𝟘) s e) ∙ product_zero laws _)
      (λ d. ap (λ t. t ⊗ f n) (product_zero_at f n j (omega arith) e) ∙ zero_product laws (f n))
      (cases_eq j n)

  pub product_apart_below : (f : ℕ → F) (n : ℕ) → ((m : ℕ) → m < n → f m ≡ 𝟘 → ⊥) → product_below o n f ≡ 𝟘 → ⊥
  product_apart_below f zero h = one_apart laws
  product_apart_below f (suc n) h =
      product_apart laws (product_below o n f) (f n) (product_apart_below f n (λ m b. h m (omega arith))) (h n (omega arith))

  -- a sum of which one term alone counts
  sum_none : (f : ℕ → F) (n : ℕ) → ((l : ℕ) → l < n → f l ≡ 𝟘) → sum_below o n f ≡ 𝟘
  sum_none f zero h = refl
  sum_none f (suc n) h = ap₂ ◌⊕◌ (sum_none f n (λ l b. h l (omega arith))) (h n (omega arith)) ∙ sum_zero laws 𝟘

  sum_single : (f : ℕ → F) (n j : ℕ) → j < n → ((l : ℕ) → l < n → (l ≡ j → ⊥) → f l ≡ 𝟘) → sum_below o n f ≡ f j
  sum_single f zero j b h = absurd (omega arith)
  sum_single f (suc n) j b h =
      ⊎_elim
      (λ s. ap₂ ◌⊕◌ (sum_none f n (λ l c. h l (omega arith) (λ e. omega arith))) (ap f (sym s)) ∙ zero_sum laws (f j))
      (λ d. ap₂ ◌⊕◌ (sum_single f n j (omega arith) (λ l c e. h l (omega arith) e)) (h n (omega arith) (λ e. d (sym e))) ∙ sum_zero laws (f j))
      (cases_eq j n)

  module _ (point : ℕ → F) (k : ℕ) (apart : Apart point k) where
    others_zero : (l j : ℕ) → j < k → (j ≡ l → ⊥) → others o point k l (point j) ≡ 𝟘
    others_zero l j h d =
        product_zero_at (factor o point l (point j)) k j h (factor_other point l j (point j) d ∙ self_difference laws (point j))

    pub others_apart : (l : ℕ) → l < k → others o point k l (point l) ≡ 𝟘 → ⊥
    others_apart l h =
        product_apart_below (factor o point l (point l)) k
        (λ m b z.
        ⊎_elim
        (λ e. one_apart laws (sym (factor_same point l (point l)) ∙ subst (λ t. factor o point l (point l) t ≡ 𝟘) e z))
        (λ d. d (sym (apart l m h b (difference_zero laws _ _ (sym (factor_other point l m (point l) d) ∙ z)))))
        (cases_eq m l))

    pub basis_one : (l : ℕ) → l < k → basis o point k l (point l) ≡ 𝟙
    basis_one l h = laws.inverse_of _ (others_apart l h)

    pub basis_zero : (l j : ℕ) → j < k → (j ≡ l → ⊥) → basis o point k l (point j) ≡ 𝟘
    basis_zero l j h d = ap (λ t. t ⊗ inverse (others o point k l (point l))) (others_zero l j h d) ∙ zero_product laws _

    pub interpolate_at : (given : ℕ → F) (j : ℕ) → j < k → interpolate o point k given (point j) ≡ given j
    interpolate_at given j h =
        sum_single (λ l. given l ⊗ basis o point k l (point j)) k j h
        (λ l b d. ap (λ t. given l ⊗ t) (basis_zero l j h (λ e. d (sym e))) ∙ product_zero laws (given l))
        ∙ ap (λ t. given j ⊗ t) (basis_one j h) ∙ product_one laws (given j)

    -- the values are met, by a polynomial of degree below k
    pub exists : (given : ℕ → F) → (p : List F) × (length p ≡ k) × Meets o point k given p
    exists given =
        let (p, e, v) = poly_interpolate point k given in (p, e, λ l h. v (point l) ∙ interpolate_at given l h)

    -- THE RULE: each polynomial of degree below k has at x what the formula makes of its values at the k points
    pub row_rule : (given : ℕ → F) (p : List F) → length p ≡ k → Meets o point k given p → (x : F) → value o p x ≡ interpolate o point k given x
    row_rule given p ep meets x =
        let (q, eq, vq) = poly_interpolate point k given in
        unique laws k p q ep eq point apart (λ l h. meets l h ∙ sym (interpolate_at given l h) ∙ sym (vq (point l))) x ∙ vq x

  -- linear in the values
  sum_plus : (n : ℕ) (f g : ℕ → F) → sum_below o n (λ l. f l ⊕ g l) ≡ sum_below o n f ⊕ sum_below o n g
  sum_plus zero f g = sym (sum_zero laws 𝟘)
  sum_plus (suc n) f g = ap (λ t. t ⊕ (f n ⊕ g n)) (sum_plus n f g) ∙ simp (ring, laws)

  pub sum_as : (n : ℕ) (f g : ℕ → F) → ((l : ℕ) → l < n → f l ≡ g l) → sum_below o n f ≡ sum_below o n g
  sum_as zero f g h = refl
  sum_as (suc n) f g h = ap₂ ◌⊕◌ (sum_as n f g (λ l b. h l (omega arith))) (h n (omega arith))

  -- terms past the k-th are zero
  pub sum_past : (f : ℕ → F) (k n : ℕ) → k ≤ n → ((l : ℕ) → l < n → k ≤ l → f l ≡ 𝟘) → sum_below o n f ≡ sum_below o k f
  sum_past f k zero h z = let e : zero ≡ k = omega arith in ap (λ t. sum_below o t f) e
  sum_past f k (suc n) h z =
      ⊎_elim
      (λ e. ap (λ t. sum_below o t f) (sym e))
      (λ d. ap (λ t. sum_below o n f ⊕ t) (z n (omega arith) (omega arith)) ∙ sum_zero laws _ ∙ sum_past f k n (omega arith) (λ l b. z l (omega arith)))
      (cases_eq k (suc n))

  -- one value changed by e changes the result by e times the basis at that place
  pub change : (point : ℕ → F) (k : ℕ) (given : ℕ → F) (j : ℕ) (e : F) (x : F) → j < k
      → interpolate o point k (λ l. cond (eqb l j) (given l ⊕ e) (given l)) x ≡ interpolate o point k given x ⊕ e ⊗ basis o point k j x
  change point k given j e x h =
      let extra : ℕ → F = λ l. cond (eqb l j) (e ⊗ basis o point k l x) 𝟘 in
      sum_as k _ (λ l. given l ⊗ basis o point k l x ⊕ extra l) (λ l b. split (eqb l j) (given l) (basis o point k l x))
      ∙ sum_plus k (λ l. given l ⊗ basis o point k l x) extra
      ∙ ap (λ t. interpolate o point k given x ⊕ t)
      (sum_single extra k j h (λ l b d. cond-false (eqb l j) _ 𝟘 (ne_eqb l j d)) ∙ cond-true (eqb j j) _ 𝟘 (eq-eqb j j refl))
    where
      split : (b : Bool) (g w : F) → cond b (g ⊕ e) g ⊗ w ≡ g ⊗ w ⊕ cond b (e ⊗ w) 𝟘
      split true g w = distributes_right laws g e w
      split false g w = sym (sum_zero laws (g ⊗ w))

  -- a turn of a loop that makes the products or the sum
  pub others_skip : (point : ℕ → F) (m l : ℕ) (x : F) → m ≡ l → others o point (m + 1) l x ≡ others o point m l x
  others_skip point m l x e = let p = product_one laws (others o point m l x) in rw add-one (grind (arith, nat_tests))

  pub others_more : (point : ℕ → F) (m l : ℕ) (x : F) → (m ≡ l → ⊥) → others o point (m + 1) l x ≡ others o point m l x ⊗ (x ⊖ point m)
  others_more point m l x d = rw add-one (grind (arith, nat_tests))

pub sum_more : {F : Type 0} (o : Operations F) (n : ℕ) (f : ℕ → F) → sum_below o (n + 1) f ≡ o.sum (sum_below o n f) (f n)
sum_more o n f = rw add-one refl
