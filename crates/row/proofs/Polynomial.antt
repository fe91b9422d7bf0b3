-- A polynomial of degree below k that vanishes at k points vanishes everywhere, so two that agree at k points agree everywhere.
-- Assumes nothing.
use Rattle.std.proofs.Common.{◌≡◌, ℕ, zero, suc, ◌<◌, ◌≤◌, List, [], ◌∷◌, length, sym, refl, ap, ◌∙◌, subst, ap₂, arith}
use Rattle.field.specs.Laws.{Operations, FieldLaws}
use Rattle.row.specs.Polynomial.{value}
use Rattle.row.specs.Interpolation.{Apart, Meets}
use Rattle.row.proofs.Algebra.{ring, sub_add, zero_sum, product_zero, sum_zero, cancel_left, cancel_right, no_divisors, difference_zero}

-- p of degree below k, where p is the tail of c + x p: its quotient by x - a
abbrev quotient : {F : Type 0} → Operations F → List F → F → List F
quotient o [] a = []
quotient o (d ∷ r) a = value o (d ∷ r) a ∷ quotient o r a

length_quotient : {F : Type 0} (o : Operations F) (p : List F) (a : F) → length (quotient o p a) ≡ length p
length_quotient o [] a = refl
length_quotient o (d ∷ r) a = ap suc (length_quotient o r a)

-- the polynomial with k coefficients zero
abbrev pub zeros : {F : Type 0} → Operations F → ℕ → List F
zeros o zero = []
zeros o (suc k) = o.zero ∷ zeros o k

-- p + q and s p
abbrev pub plus : {F : Type 0} → Operations F → List F → List F → List F
plus o [] q = q
plus o (a ∷ p) [] = a ∷ p
plus o (a ∷ p) (b ∷ q) = o.sum a b ∷ plus o p q

abbrev pub scale : {F : Type 0} → Operations F → F → List F → List F
scale o s [] = []
scale o s (a ∷ p) = o.product s a ∷ scale o s p

pub length_scale : {F : Type 0} (o : Operations F) (s : F) (p : List F) → length (scale o s p) ≡ length p
length_scale o s [] = refl
length_scale o s (a ∷ p) = ap suc (length_scale o s p)

pub length_plus : {F : Type 0} (o : Operations F) (p q : List F) → length p ≤ length q → length (plus o p q) ≡ length q
length_plus o [] q h = refl
length_plus o (a ∷ p) [] h = omega arith
length_plus o (a ∷ p) (b ∷ q) h = ap suc (length_plus o p q (omega arith))

module _ {F : Type 0} {o : Operations F} (laws : FieldLaws o) where
  open o use {zero as 𝟘, one as 𝟙, sum as ◌⊕◌, product as ◌⊗◌, difference as ◌⊖◌, inverse}

  infixl 60 ◌⊕◌
  infixl 60 ◌⊖◌
  infixl 70 ◌⊗◌
  pub value_plus : (p q : List F) (x : F) → value o (plus o p q) x ≡ value o p x ⊕ value o q x
  value_plus [] q x = sym (zero_sum laws (value o q x))
  value_plus (a ∷ p) [] x = sym (sum_zero laws (value o (a ∷ p) x))
  value_plus (a ∷ p) (b ∷ q) x = ap (λ t. (a ⊕ b) ⊕ x ⊗ t) (value_plus p q x) ∙ simp (ring, laws)

  pub value_scale : (s : F) (p : List F) (x : F) → value o (scale o s p) x ≡ s ⊗ value o p x
  value_scale s [] x = sym (product_zero laws s)
  value_scale s (a ∷ p) x = ap (λ t. s ⊗ a ⊕ x ⊗ t) (value_scale s p x) ∙ simp (ring, laws)

  divides_step : (e a d r ra q : F) → (e ⊕ a) ⊗ r ≡ e ⊗ q ⊕ a ⊗ ra
      → (e ⊕ a) ⊗ (d ⊕ (e ⊕ a) ⊗ r) ≡ e ⊗ ((d ⊕ a ⊗ ra) ⊕ (e ⊕ a) ⊗ q) ⊕ a ⊗ (d ⊕ a ⊗ ra)
  divides_step e a d r ra q h = ap (λ t. (e ⊕ a) ⊗ (d ⊕ t)) h ∙ simp (ring, laws)

  divides_at : (p : List F) (e a : F) → (e ⊕ a) ⊗ value o p (e ⊕ a) ≡ e ⊗ value o (quotient o p a) (e ⊕ a) ⊕ a ⊗ value o p a
  divides_at [] e a = simp (ring, laws)
  divides_at (d ∷ r) e a =
      divides_step e a d (value o r (e ⊕ a)) (value o r a) (value o (quotient o r a) (e ⊕ a)) (divides_at r e a)

  -- x p(x) = (x - a) q(x) + a p(a)
  pub divides : (p : List F) (x a : F) → x ⊗ value o p x ≡ (x ⊖ a) ⊗ value o (quotient o p a) x ⊕ a ⊗ value o p a
  divides p x a =
      subst (λ t. t ⊗ value o p t ≡ (x ⊖ a) ⊗ value o (quotient o p a) t ⊕ a ⊗ value o p a) (sub_add laws x a) (divides_at p (x ⊖ a) a)

  pub vanishes : (k : ℕ) (p : List F) → length p ≡ k → (point : ℕ → F) → Apart point k → Meets o point k (λ _. 𝟘) p → (x : F) → value o p x ≡ 𝟘
  vanishes k [] e point apart roots x = refl
  vanishes zero (c ∷ p) e point apart roots x = absurd (omega arith)
  vanishes (suc k) (c ∷ p) e point apart roots x =
      let a = point k in
      let at_a = roots k (omega arith) in
      let q = quotient o p a in
      let at : (i : ℕ) → i < k → value o q (point i) ≡ 𝟘
      = λ i h.
      let b = point i in
      let same : b ⊗ value o p b ≡ a ⊗ value o p a = cancel_left laws _ _ c (roots i (omega arith) ∙ sym at_a) in
      no_divisors laws (b ⊖ a) (value o q b)
      (λ z. let n : i ≡ k = apart i k (omega arith) (omega arith) (difference_zero laws b a z) in omega arith)
      (cancel_right laws _ _ (a ⊗ value o p a) (sym (divides p b a) ∙ same ∙ sym (zero_sum laws (a ⊗ value o p a)))) in
      let none = vanishes k q (length_quotient o p a ∙ omega arith) point (λ i j hi hj. apart i j (omega arith) (omega arith)) at x in
      ap (λ t. c ⊕ t) (divides p x a) ∙ ap (λ t. c ⊕ ((x ⊖ a) ⊗ t ⊕ a ⊗ value o p a)) none
      ∙ ap (λ t. c ⊕ (t ⊕ a ⊗ value o p a)) (product_zero laws (x ⊖ a)) ∙ ap (λ t. c ⊕ t) (zero_sum laws (a ⊗ value o p a)) ∙ at_a

  -- two polynomials of degree below k that agree at k points agree everywhere
  pub unique : (k : ℕ) (p q : List F) → length p ≡ k → length q ≡ k → (point : ℕ → F) → Apart point k
      → ((l : ℕ) → l < k → value o p (point l) ≡ value o q (point l)) → (x : F) → value o p x ≡ value o q x
  unique k p q ep eq point apart agree x =
      let n = 𝟘 ⊖ 𝟙 in
      let d = plus o (scale o n q) p in
      let n_one : n ⊕ 𝟙 ≡ 𝟘 = sub_add laws 𝟘 𝟙 in
      let back : (y : F) → value o d y ⊕ value o q y ≡ value o p y
      = λ y.
      ap (λ t. t ⊕ value o q y) (value_plus (scale o n q) p y ∙ ap (λ t. t ⊕ value o p y) (value_scale n q y)) ∙ minus (value o p y) (value o q y) in
      let gone : (y : F) → value o p y ≡ value o q y → value o d y ≡ 𝟘
      = λ y h. cancel_right laws _ _ (value o q y) (back y ∙ h ∙ sym (zero_sum laws (value o q y))) in
      let none = vanishes k d (length_plus o (scale o n q) p (omega (arith, length_scale o n q)) ∙ ep) point apart (λ l h. gone (point l) (agree l h)) x in
      sym (back x) ∙ ap (λ t. t ⊕ value o q x) none ∙ zero_sum laws (value o q x)
    where
      minus : (u v : F) → (((𝟘 ⊖ 𝟙) ⊗ v) ⊕ u) ⊕ v ≡ u
      minus u v =
          let e : (((𝟘 ⊖ 𝟙) ⊗ v) ⊕ u) ⊕ v ≡ ((𝟘 ⊖ 𝟙) ⊕ 𝟙) ⊗ v ⊕ u = simp (ring, laws) in
          e ∙ ap (λ t. t ⊗ v ⊕ u) (sub_add laws 𝟘 𝟙) ∙ simp (ring, laws)

  -- so are the coefficients

  pub value_zeros : (k : ℕ) (x : F) → value o (zeros o k) x ≡ 𝟘
  value_zeros zero x = refl
  value_zeros (suc k) x = ap (λ t. 𝟘 ⊕ x ⊗ t) (value_zeros k x) ∙ simp (ring, laws)

  alone : (c a : F) (k : ℕ) (p : List F) → p ≡ zeros o k → value o (c ∷ p) a ≡ c
  alone c a k p e = ap (λ q. c ⊕ a ⊗ value o q a) e ∙ ap (λ t. c ⊕ a ⊗ t) (value_zeros k a) ∙ simp (ring, laws)

  dividend_zeros : (k : ℕ) (p : List F) (a : F) → quotient o p a ≡ zeros o k → p ≡ zeros o k
  dividend_zeros zero [] a e = refl
  dividend_zeros (suc k) [] a e = let n : ◌≡◌ {A = ℕ} 0 (suc (length (zeros o k))) = ap length e in absurd (omega arith)
  dividend_zeros zero (d ∷ r) a e = let n : ◌≡◌ {A = ℕ} (suc (length (quotient o r a))) 0 = ap length e in absurd (omega arith)
  dividend_zeros (suc k) (d ∷ r) a e =
      let rest : quotient o r a ≡ zeros o k = cc in
      let first : value o (d ∷ r) a ≡ 𝟘 = cc in
      let tail = dividend_zeros k r a rest in
      ap₂ ◌∷◌ (sym (alone d a k r tail) ∙ first) tail

  -- a polynomial of degree below k that vanishes at k points has no coefficient but zero
  pub vanishes_coefficients : (k : ℕ) (p : List F) → length p ≡ k → (point : ℕ → F) → Apart point k → Meets o point k (λ _. 𝟘) p → p ≡ zeros o k
  vanishes_coefficients zero [] e point apart roots = refl
  vanishes_coefficients (suc k) [] e point apart roots = absurd (omega arith)
  vanishes_coefficients zero (c ∷ p) e point apart roots = absurd (omega arith)
  vanishes_coefficients (suc k) (c ∷ p) e point apart roots =
      let a = point k in
      let at_a = roots k (omega arith) in
      let q = quotient o p a in
      let at : (i : ℕ) → i < k → value o q (point i) ≡ 𝟘
      = λ i h.
      let b = point i in
      let same : b ⊗ value o p b ≡ a ⊗ value o p a = cancel_left laws _ _ c (roots i (omega arith) ∙ sym at_a) in
      no_divisors laws (b ⊖ a) (value o q b)
      (λ z. let n : i ≡ k = apart i k (omega arith) (omega arith) (difference_zero laws b a z) in omega arith)
      (cancel_right laws _ _ (a ⊗ value o p a) (sym (divides p b a) ∙ same ∙ sym (zero_sum laws (a ⊗ value o p a)))) in
      let tail = dividend_zeros k p a (vanishes_coefficients k q (length_quotient o p a ∙ omega arith) point (λ i j hi hj. apart i j (omega arith) (omega arith)) at) in
      ap₂ ◌∷◌ (sym (alone c a k p tail) ∙ at_a) tail

  minus_one : (u v : F) → (((𝟘 ⊖ 𝟙) ⊗ v) ⊕ u) ⊕ v ≡ u
  minus_one u v =
      let e : (((𝟘 ⊖ 𝟙) ⊗ v) ⊕ u) ⊕ v ≡ ((𝟘 ⊖ 𝟙) ⊕ 𝟙) ⊗ v ⊕ u = simp (ring, laws) in
      e ∙ ap (λ t. t ⊗ v ⊕ u) (sub_add laws 𝟘 𝟙) ∙ simp (ring, laws)

  same_coefficients : (k : ℕ) (p q : List F) → length p ≡ k → length q ≡ k → plus o (scale o (𝟘 ⊖ 𝟙) q) p ≡ zeros o k → p ≡ q
  same_coefficients k [] [] ep eq e = refl
  same_coefficients k [] (b ∷ q) ep eq e = absurd (omega arith)
  same_coefficients k (a ∷ p) [] ep eq e = absurd (omega arith)
  same_coefficients zero (a ∷ p) (b ∷ q) ep eq e = absurd (omega arith)
  same_coefficients (suc k) (a ∷ p) (b ∷ q) ep eq e =
      let first : ((𝟘 ⊖ 𝟙) ⊗ b) ⊕ a ≡ 𝟘 = cc in
      let rest : plus o (scale o (𝟘 ⊖ 𝟙) q) p ≡ zeros o k = cc in
      ap₂ ◌∷◌ (sym (minus_one a b) ∙ ap (λ t. t ⊕ b) first ∙ zero_sum laws b) (same_coefficients k p q (omega arith) (omega arith) rest)

  -- two polynomials of degree below k that agree at k points are one
  pub unique_coefficients : (k : ℕ) (p q : List F) → length p ≡ k → length q ≡ k → (point : ℕ → F) → Apart point k
      → ((l : ℕ) → l < k → value o p (point l) ≡ value o q (point l)) → p ≡ q
  unique_coefficients k p q ep eq point apart agree =
      let n = 𝟘 ⊖ 𝟙 in
      let d = plus o (scale o n q) p in
      let back : (y : F) → value o d y ⊕ value o q y ≡ value o p y
      = λ y.
      ap (λ t. t ⊕ value o q y) (value_plus (scale o n q) p y ∙ ap (λ t. t ⊕ value o p y) (value_scale n q y)) ∙ minus_one (value o p y) (value o q y) in
      let gone : (y : F) → value o p y ≡ value o q y → value o d y ≡ 𝟘
      = λ y h. cancel_right laws _ _ (value o q y) (back y ∙ h ∙ sym (zero_sum laws (value o q y))) in
      same_coefficients k p q ep eq
      (vanishes_coefficients k d (length_plus o (scale o n q) p (omega (arith, length_scale o n q)) ∙ ep) point apart (λ l h. gone (point l) (agree l h)))
