-- Numbers modulo k, and the numbers but one. Assumes nothing.
use Rattle.std.proofs.Common.{◌≡◌, ℕ, ◌+◌, ◌-◌, ◌<◌, ◌≤◌, ◌⊎◌, sym, ◌∙◌, inl, inr, ⊎_elim, mod-eq_of_lt, arith}
use native.Mathlib.Nat.{mod-eq-sub-mod}
use Rattle.std.proofs.lemmas.Bool.Decides.{nat_tests}
use Rattle.std.proofs.lemmas.Bool.{cases_lt}
use Rattle.array.specs.declared.parameters.Parameters.{Parameters}
use Rattle.array.specs.Layout.{wrap, offset, skip}

-- x modulo k, where x goes around once at most
pub record Wrapped (k x y : ℕ) : Type 0 where
  pub below : y < k
  pub either : (x ≡ y) ⊎ (x ≡ y + k)

pub wrapped : (s : Parameters) (x : ℕ) → x < s.k + s.k → Wrapped s.k x (wrap s x)
wrapped s x h =
    ⊎_elim
    (λ l. let e : wrap s x ≡ x = mod-eq_of_lt l in record { below = omega arith; either = inl (sym e) })
    (λ g.
    let e : wrap s x ≡ x - s.k = mod-eq-sub-mod g ∙ mod-eq_of_lt (omega arith) in record { below = omega arith; either = inr (omega arith) })
    (cases_lt x s.k)

pub wrapped_is : (s : Parameters) (x y : ℕ) → x < s.k + s.k → y < s.k → (x ≡ y) ⊎ (x ≡ y + s.k) → wrap s x ≡ y
wrapped_is s x y h b (inl e) = let w = wrapped s x h in ⊎_elim (λ a. omega (arith, w.below)) (λ a. omega (arith, w.below)) w.either
wrapped_is s x y h b (inr e) = let w = wrapped s x h in ⊎_elim (λ a. omega (arith, w.below)) (λ a. omega (arith, w.below)) w.either

pub offset_below : (s : Parameters) (i j : ℕ) → i < s.k → j < s.k → offset s i j < s.k
offset_below s i j hi hj = (wrapped s (i + (s.k - j)) (omega arith)).below

-- the row of a symbol, from its offset
pub offset_row : (s : Parameters) (i j : ℕ) → i < s.k → j < s.k → wrap s (j + offset s i j) ≡ i
offset_row s i j hi hj =
    let w = wrapped s (i + (s.k - j)) (omega arith) in
    let b = w.below in
    ⊎_elim (λ e. wrapped_is s (j + offset s i j) i (omega arith) hi (inr (omega arith)))
    (λ e. wrapped_is s (j + offset s i j) i (omega arith) hi (inl (omega arith))) w.either

-- its node, from its offset
pub offset_node : (s : Parameters) (i j : ℕ) → i < s.k → j < s.k → wrap s (i + (s.k - offset s i j)) ≡ j
offset_node s i j hi hj =
    let w = wrapped s (i + (s.k - j)) (omega arith) in
    let b = w.below in
    ⊎_elim (λ e. wrapped_is s (i + (s.k - offset s i j)) j (omega arith) hj (inl (omega arith)))
    (λ e. wrapped_is s (i + (s.k - offset s i j)) j (omega arith) hj (inr (omega arith))) w.either

-- the numbers but x
pub skip_cases : (x c : ℕ) → ((c < x) × (skip x c ≡ c)) ⊎ ((x ≤ c) × (skip x c ≡ c + 1))
skip_cases x c = ⊎_elim (λ h. inl (h, grind (arith, nat_tests))) (λ h. inr (h, grind (arith, nat_tests))) (cases_lt c x)

pub skip_bounds : (x c : ℕ) → (c ≤ skip x c) × (skip x c ≤ c + 1)
skip_bounds x c = (grind (arith, nat_tests), grind (arith, nat_tests))

pub skip_not : (x c : ℕ) → skip x c ≡ x → ⊥
skip_not x c e = grind (arith, nat_tests)

pub skip_injective : (x c e : ℕ) → skip x c ≡ skip x e → c ≡ e
skip_injective x c e h = grind (arith, nat_tests)

-- each number but x is listed
pub skip_onto : (x y : ℕ) → (y ≡ x → ⊥) → (c : ℕ) × (skip x c ≡ y) × (c ≤ y) × (y ≤ c + 1) × (x < y → y ≡ c + 1)
skip_onto x y n =
    ⊎_elim (λ h. (y, grind (arith, nat_tests), omega arith, omega arith, λ g. omega arith))
    (λ h. (y - 1, grind (arith, nat_tests), omega arith, omega arith, λ g. omega arith)) (cases_lt y x)

-- the rows x and y further on
pub row_not : (s : Parameters) (j x : ℕ) → j < s.k → 1 ≤ x → x < s.k → wrap s (j + x) ≡ j → ⊥
row_not s j x h a b e = let w = wrapped s (j + x) (omega arith) in ⊎_elim (λ f. omega arith) (λ f. omega arith) w.either

pub rows_apart : (s : Parameters) (j x y : ℕ) → j < s.k → x < s.k → y < s.k → wrap s (j + x) ≡ wrap s (j + y) → x ≡ y
rows_apart s j x y h a b e =
    let u = wrapped s (j + x) (omega arith) in
    let w = wrapped s (j + y) (omega arith) in
    ⊎_elim (λ f. ⊎_elim (λ g. omega arith) (λ g. absurd (omega arith)) w.either) (λ f. ⊎_elim (λ g. absurd (omega arith)) (λ g. omega arith) w.either) u.either

-- the offset, from the row and the node
pub offset_cases : (s : Parameters) (i c : ℕ) → i < s.k → c < s.k → ((c ≤ i) × (offset s i c ≡ i - c)) ⊎ ((i < c) × (offset s i c ≡ i + s.k - c))
offset_cases s i c hi hc =
    ⊎_elim (λ h. inr (h, wrapped_is s (i + (s.k - c)) (i + s.k - c) (omega arith) (omega arith) (inl (omega arith))))
    (λ h. inl (h, wrapped_is s (i + (s.k - c)) (i - c) (omega arith) (omega arith) (inr (omega arith)))) (cases_lt i c)

-- the symbol t rows further on, at node i
pub offset_step : (s : Parameters) (i t : ℕ) → i < s.k → t < s.k → offset s (wrap s (i + t)) i ≡ t
offset_step s i t hi ht =
    let w = wrapped s (i + t) (omega arith) in
    let b = w.below in
    ⊎_elim (λ e. wrapped_is s (wrap s (i + t) + (s.k - i)) t (omega arith) ht (inr (omega arith)))
    (λ e. wrapped_is s (wrap s (i + t) + (s.k - i)) t (omega arith) ht (inl (omega arith))) w.either

-- the symbol m nodes past the diagonal of row i
pub offset_past : (s : Parameters) (i m : ℕ) → i < s.k → 1 ≤ m → m < s.k → offset s i (wrap s (i + m)) ≡ s.k - m
offset_past s i m hi a hm =
    let w = wrapped s (i + m) (omega arith) in
    let b = w.below in
    ⊎_elim (λ e. wrapped_is s (i + (s.k - wrap s (i + m))) (s.k - m) (omega arith) (omega arith) (inl (omega arith)))
    (λ e. wrapped_is s (i + (s.k - wrap s (i + m))) (s.k - m) (omega arith) (omega arith) (inr (omega arith))) w.either
