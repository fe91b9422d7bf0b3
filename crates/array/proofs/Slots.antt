-- Each place of a sheet has a record of its own in the working memory. Assumes nothing.
use Rattle.std.proofs.Common.{◌≡◌, ℕ, ◌+◌, ◌-◌, ◌*◌, ◌/◌, ◌<◌, ◌≤◌, true, cond, eqb, leb, ◌⊎◌, sym, refl, ap, ◌∙◌, subst, ap₂, inl, inr, ⊎_elim, mul-le-mul_left, mul-add, arith}
use native.Mathlib.Nat.{mul-add-div, div-eq_of_lt}
use Rattle.std.specs.List.{range_with_len}
use Rattle.std.proofs.lemmas.Bool.Decides.{nat_tests}
use Rattle.std.proofs.lemmas.Bool.{cases_lt, cases_eq}
use Rattle.sheet.specs.declared.place.Place.{Place}
use Rattle.sheet.specs.Places.{at, listed}
use Rattle.array.specs.declared.parameters.Parameters.{Parameters}
use Rattle.array.specs.Layout.{nodes, steps, reach, wrap, first_step, step_node, step_of, skip}
use Rattle.array.specs.Sheet.{row_places, step_places, local_places, far_places, sheet, least_offset, node_sheet, given_row, slot}
use Rattle.array.specs.Theorems.{Slots}
use Rattle.array.proofs.Members.{In, from_map, from_counting, in_listed}
use Rattle.array.proofs.Wraps.{wrapped, wrapped_is, skip_bounds, row_not, rows_apart}
use Rattle.array.proofs.Parts.{far_row, far_local, by_part}
use Rattle.array.proofs.Kept.{from_offset}
use Rattle.array.proofs.Restoring.{sheet_data, sheet_parity}
use Rattle.array.proofs.Standing.{node_fine}

-- a row and a data node as one number
pub pair_apart : (k r u p v : ℕ) → u < k → v < k → k * r + u ≡ k * p + v → (r ≡ p) × (u ≡ v)
pair_apart k r u p v a b e =
    let row : (r u : ℕ) → u < k → (k * r + u) / k ≡ r = λ r u h. mul-add-div (omega arith) r u ∙ ap (λ n. r + n) (div-eq_of_lt h) ∙ omega arith in
    let s : r ≡ p = sym (row r u a) ∙ ap (λ n. n / k) e ∙ row p v b in
    let m : k * r ≡ k * p = ap (λ n. k * n) s in
    (s, omega arith)

pub pair_below : (k r u : ℕ) → r < k → u < k → k * r + u < k * k
pair_below k r u a b =
    let e : k * (r + 1) ≡ k * r + k = mul-add k r 1 ∙ ap (λ n. k * r + n) (omega arith) in
    let l : k * (r + 1) ≤ k * k = mul-le-mul_left k (omega arith) in
    omega arith

module _ (s : Parameters) (m i c : ℕ) where
  pub slot_data : i < s.k → c < s.k → slot s m i c ≡ s.k * i + c
  unfolding slot
  slot_data a b = grind (arith, nat_tests)

  pub slot_parity : i < s.k → s.k ≤ c → c < nodes s → slot s m i c ≡ s.k * given_row s m i c + m
  unfolding slot
  slot_parity a b d = grind (arith, nat_tests)

  given_plain : i ≡ m → c < first_step s → given_row s m i c ≡ m
  given_plain e h = grind (arith, nat_tests)

  given_step : (t : ℕ) → i ≡ m → 1 ≤ t → c ≡ step_node s t → given_row s m i c ≡ wrap s (m + t)
  given_step t e a h =
      let u : step_of s c ≡ t = omega arith in
      let w = ap (λ n. wrap s (m + n)) u in
      grind (arith, nat_tests)

  given_far : (i ≡ m → ⊥) → given_row s m i c ≡ i
  given_far n = grind (arith, nat_tests)

module _ (s : Parameters) (j : ℕ) (hj : j < s.k) where
  -- the node of the parity symbol that gives an offset past S
  abbrev far_node : ℕ
  far_node = cond (eqb s.b 0) s.k (step_node s (steps s))

  -- the parity place that gives the symbol of offset x
  abbrev parity_place : ℕ → Place
  parity_place x = cond (eqb x 0) (at j s.k) (cond (leb x (steps s)) (at j (step_node s x)) (at (wrap s (j + x)) far_node))

  own_is : parity_place 0 ≡ at j s.k
  own_is = refl

  step_is : (x : ℕ) → 1 ≤ x → x ≤ steps s → parity_place x ≡ at j (step_node s x)
  step_is x a b = grind (arith, nat_tests)

  far_is : (x : ℕ) → steps s < x → parity_place x ≡ at (wrap s (j + x)) far_node
  far_is x a = grind (arith, nat_tests)

  far_node_row : s.b ≡ 0 → far_node ≡ s.k
  far_node_row z = grind (arith, nat_tests)

  far_node_local : (s.b ≡ 0 → ⊥) → far_node ≡ step_node s (steps s)
  far_node_local n = grind (arith, nat_tests)

  far_node_bounds : (s.k ≤ far_node) × (far_node < nodes s)
  far_node_bounds = (grind (arith, nat_tests), grind (arith, nat_tests))

  -- its slot is that of the symbol which it gives
  abbrev SlotOf : ℕ → Place → Type 0
  SlotOf x p = slot s j p.row p.node ≡ s.k * wrap s (j + x) + j

  parity_slot : (x : ℕ) → x < s.k → SlotOf x (parity_place x)
  parity_slot x h =
      ⊎_elim
      (λ z.
      let w : wrap s (j + x) ≡ j = wrapped_is s (j + x) j (omega arith) hj (inl (omega arith)) in
      subst (λ p. SlotOf x p) (ap parity_place (sym z))
      (slot_parity s j j s.k hj (omega arith) (omega arith) ∙ ap (λ r. s.k * r + j) (given_plain s j j s.k refl (omega arith) ∙ sym w)))
      (λ n.
      let p : 1 ≤ x = omega arith in
      ⊎_elim
      (λ f.
      let b = far_node_bounds in
      subst (λ p. SlotOf x p) (sym (far_is x f))
      (slot_parity s j (wrap s (j + x)) far_node (wrapped s (j + x) (omega arith)).below b.0 b.1 ∙ ap (λ r. s.k * r + j) (given_far s j (wrap s (j + x)) far_node (row_not s j x hj p h))))
      (λ l.
      subst (λ p. SlotOf x p) (sym (step_is x p l))
      (slot_parity s j j (step_node s x) hj (omega arith) (omega arith) ∙ ap (λ r. s.k * r + j) (given_step s j j (step_node s x) x refl p refl)))
      (cases_lt (steps s) x))
      (cases_eq x 0)

  -- each place of the sheet is a data place, or gives a symbol
  abbrev Kind : Place → Type 0
  Kind p = (p.node < s.k) ⊎ ((x : ℕ) × (x < s.k) × (p ≡ parity_place x))

  row_kind : (x i : ℕ) → x < s.k → parity_place x ≡ at i s.k → (p : Place) → In p (row_places s j i) → Kind p
  unfolding row_places
  row_kind x i hx e p h =
      let (c, g, q) = from_map (λ c. at i (skip j c)) p (range_with_len 0 s.k) h in
      let (a, b) = from_counting c 0 s.k g in
      let n : p.node ≡ skip j c = ap (λ q. q.node) q in
      ⊎_elim
      (λ l. inl (omega arith))
      (λ l. inr (x, hx, q ∙ ap (at i) (omega (arith, skip_bounds j c)) ∙ sym e)) (cases_lt (skip j c) s.k)

  step_kind : (t l : ℕ) → 1 ≤ t → t + l ≤ steps s + 1 → (p : Place) → In p (step_places s j t l) → Kind p
  unfolding step_places
  step_kind t l u v p h =
      let (x, g, e) = from_map (λ t. at j (step_node s t)) p (range_with_len t l) h in
      let (a, b) = from_counting x t l g in
      inr (x, omega arith, e ∙ sym (step_is x (omega arith) (omega arith)))

  far_kind : (x : ℕ) → steps s < x → x < s.k → (p : Place) → In p (far_places s j x) → Kind p
  unfolding local_places
  far_kind x far below p h =
      ⊎_elim
      (λ z. row_kind x (wrap s (j + x)) below (far_is x far ∙ ap (at (wrap s (j + x))) (far_node_row z)) p (subst (λ ps. In p ps) (far_row s j x z) h))
      (λ n. local_kind n p (subst (λ ps. In p ps) (far_local s j x (omega arith)) h)) (cases_eq s.b 0)
    where
      local_kind : (s.b ≡ 0 → ⊥) → (p : Place) → In p (local_places s x (wrap s (j + x))) → Kind p
      local_kind n p (inl e) = inr (x, below, e ∙ sym (far_is x far ∙ ap (at (wrap s (j + x))) (far_node_local n)))
      local_kind n p (inr (inl e)) =
          let f : p.node ≡ wrap s (j + x) = ap (λ q. q.node) e in
          let b = (wrapped s (j + x) (omega arith)).below in
          inl (omega arith)
      local_kind n p (inr (inr g)) =
          let (m, u, e) = from_map (λ m. at (wrap s (j + x)) (wrap s (wrap s (j + x) + skip (s.k - x) m))) p (range_with_len 1 (reach s - 2)) g in
          let (lo, hi) = from_counting m 1 (reach s - 2) u in
          let f : p.node ≡ wrap s (wrap s (j + x) + skip (s.k - x) m) = ap (λ q. q.node) e in
          let b = (wrapped s (j + x) (omega arith)).below in
          let y : skip (s.k - x) m < s.k = omega (arith, skip_bounds (s.k - x) m) in
          let w = (wrapped s (wrap s (j + x) + skip (s.k - x) m) (omega arith)).below in
          inl (omega arith)

  kind : (p : Place) → In p (sheet s j) → Kind p
  kind = by_part s j Kind (row_kind 0 j (omega arith) own_is) (λ t l u v. step_kind t l u v) (λ x far below. far_kind x far below)

  -- the row and the data node that a slot is of
  record Held (p : Place) : Type 0 where
    row : ℕ
    node : ℕ
    row_below : row < s.k
    node_below : node < s.k
    is : slot s j p.row p.node ≡ s.k * row + node
    fixes : ((node ≡ j → ⊥) × (p ≡ at row node)) ⊎ ((x : ℕ) × (x < s.k) × (node ≡ j) × (row ≡ wrap s (j + x)) × (p ≡ parity_place x))

  held : (p : Place) → p.row < s.k → (p.node ≡ j → ⊥) → Kind p → Held p
  held p a n (inl b) = record { row = p.row; node = p.node; row_below = a; node_below = b; is = slot_data s j p.row p.node a b; fixes = inl (n, refl) }
  held p a n (inr (x, b, e)) = record {
    row = wrap s (j + x);
    node = j;
    row_below = (wrapped s (j + x) (omega arith)).below;
    node_below = hj;
    is = subst (λ p. SlotOf x p) (sym e) (parity_slot x b);
    fixes = inr (x, b, refl, refl, e);
  }

  same : (p q : Place) → Held p → Held q → slot s j p.row p.node ≡ slot s j q.row q.node → p ≡ q
  same p q f g e =
      let (r, c) = pair_apart s.k f.row f.node g.row g.node f.node_below g.node_below (sym f.is ∙ e ∙ g.is) in
      ⊎_elim
      (λ u. ⊎_elim (λ v. u.1 ∙ ap₂ at r c ∙ sym v.1) (λ v. absurd (u.0 (c ∙ v.2))) g.fixes)
      (λ u.
      ⊎_elim (λ v. absurd (v.0 (sym c ∙ u.2)))
      (λ v.
      let (x, hx, z, a, b) = u in
      let (y, hy, z', a', b') = v in
      b ∙ ap parity_place (rows_apart s j x y hj hx hy (sym a ∙ r ∙ a')) ∙ sym b') g.fixes) f.fixes

pub slots : Slots
slots s m hm = (
  λ i c e. ⊎_elim (λ t. let h = data_held t i c e in subst (λ n. n < s.k * s.k) (sym h.is) (pair_below s.k h.row h.node h.row_below h.node_below))
      (λ t. let (a, b) = parity_in t i c e in subst (λ n. n < s.k * s.k) (sym (slot_data s m i c a b)) (pair_below s.k i c a b)) (cases_lt m s.k),
  λ i c p q e f g. ⊎_elim
      (λ t. let h = same s m t (at i c) (at p q) (data_held t i c e) (data_held t p q f) g in (ap (λ p. p.row) h, ap (λ p. p.node) h))
      (λ t.
      let (a, b) = parity_in t i c e in
      let (u, v) = parity_in t p q f in
      pair_apart s.k i c p q b v (sym (slot_data s m i c a b) ∙ g ∙ slot_data s m p q u v)) (cases_lt m s.k),
)
  where
    data_held : (t : m < s.k) (i c : ℕ) → listed (node_sheet s m) (at i c) ≡ true → Held s m t (at i c)
    data_held t i c e =
        let h = in_listed (node_sheet s m) (at i c) e in
        let f = node_fine s m hm (at i c) h in
        held s m t (at i c) f.0 f.2 (kind s m t (at i c) (subst (λ ps. In (at i c) ps) (sheet_data s m t) h))

    parity_in : s.k ≤ m → (i c : ℕ) → listed (node_sheet s m) (at i c) ≡ true → (i < s.k) × (c < s.k)
    parity_in t i c e =
        let f = from_offset s (least_offset s m) (at i c) (subst (λ ps. In (at i c) ps) (sheet_parity s m t) (in_listed (node_sheet s m) (at i c) e)) in
        (f.0, f.1)
