-- Each place of a node's read sheet stands on the array, at another node. Assumes nothing.
use Rattle.std.proofs.Common.{◌≡◌, ℕ, ◌+◌, ◌-◌, ◌*◌, ◌<◌, ◌≤◌, length, sym, refl, ap, ◌∙◌, subst, inl, inr, ⊎_elim, add-mul, mul-le-mul, mul-add, arith}
use Rattle.std.specs.List.{range_with_len}
use Rattle.std.proofs.lemmas.Bool.{cases_lt, cases_eq}
use Rattle.array.specs.declared.parameters.Parameters.{Parameters}
use Rattle.sheet.specs.declared.place.Place.{Place}
use Rattle.array.specs.Layout.{nodes, steps, reach, wrap, offset, step_node, skip}
use Rattle.sheet.specs.Places.{at, distinct, places_of, sheet_of}
use Rattle.array.specs.Sheet.{row_places, step_places, local_places, far_places, listing, sheet, least_offset, mend_entries, node_sheet}
use Rattle.array.specs.Theorems.{AllStand, sheet_size}
use Rattle.array.proofs.Members.{In, from_map, from_counting, in_listed, listed_in, in_distinct}
use Rattle.array.proofs.Wraps.{wrapped, offset_cases, skip_bounds, skip_not, row_not}
use Rattle.array.proofs.Parts.{in_row, far_row, far_local, by_part}
use Rattle.array.proofs.Once.{distinct_twice}
use Rattle.array.proofs.Kept.{in_offset, from_offset, offset_length}
use Rattle.array.proofs.Restoring.{sheet_data, sheet_parity, least_a, least_b}
use Rattle.array.proofs.Size.{sized, sized_rows}

module _ (s : Parameters) (n : ℕ) where
  abbrev Fine : Place → Type 0
  Fine p = (p.row < s.k) × (p.node < nodes s) × (p.node ≡ n → ⊥)

  fine : (i m : ℕ) → i < s.k → m < nodes s → (m ≡ n → ⊥) → (p : Place) → p ≡ at i m → Fine p
  fine i m a b c p e = subst (λ p. Fine p) (sym e) (a, b, c)

  module _ (hn : n < s.k) where
    row_fine : (i : ℕ) → i < s.k → (p : Place) → In p (row_places s n i) → Fine p
    unfolding row_places
    row_fine i hi p h =
        let (c, g, e) = from_map (λ c. at i (skip n c)) p (range_with_len 0 s.k) h in
        let (a, b) = from_counting c 0 s.k g in
        fine i (skip n c) hi (omega (arith, skip_bounds n c)) (skip_not n c) p e

    step_fine : (t l : ℕ) → 1 ≤ t → t + l ≤ steps s + 1 → (p : Place) → In p (step_places s n t l) → Fine p
    unfolding step_places
    step_fine t l u v p h =
        let (x, g, e) = from_map (λ t. at n (step_node s t)) p (range_with_len t l) h in
        let (a, b) = from_counting x t l g in
        fine n (step_node s x) hn (omega arith) (λ z. omega arith) p e

    module _ (x : ℕ) (far : steps s < x) (below : x < s.k) where
      past_not : (y : ℕ) → y < s.k → (y ≡ s.k - x → ⊥) → wrap s (wrap s (n + x) + y) ≡ n → ⊥
      past_not y h d e =
          let u = wrapped s (n + x) (omega arith) in
          let ub = u.below in
          let w = wrapped s (wrap s (n + x) + y) (omega arith) in
          ⊎_elim (λ f. ⊎_elim (λ g. omega arith) (λ g. d (omega arith)) w.either) (λ f. ⊎_elim (λ g. d (omega arith)) (λ g. omega arith) w.either) u.either

      local_fine : 1 ≤ s.b → (p : Place) → In p (local_places s x (wrap s (n + x))) → Fine p
      unfolding local_places
      local_fine some p (inl e) = fine (wrap s (n + x)) (step_node s (steps s)) (wrapped s (n + x) (omega arith)).below (omega arith) (λ z. omega arith) p e
      local_fine some p (inr (inl e)) =
          let b = (wrapped s (n + x) (omega arith)).below in
          fine (wrap s (wrap s (n + x) + steps s)) (wrap s (n + x)) (wrapped s (wrap s (n + x) + steps s) (omega arith)).below (omega arith) (row_not s n x hn (omega arith) below) p e
      local_fine some p (inr (inr h)) =
          let b = (wrapped s (n + x) (omega arith)).below in
          let (m, g, e) = from_map (λ m. at (wrap s (n + x)) (wrap s (wrap s (n + x) + skip (s.k - x) m))) p (range_with_len 1 (reach s - 2)) h in
          let (lo, hi) = from_counting m 1 (reach s - 2) g in
          let y : skip (s.k - x) m < s.k = omega (arith, skip_bounds (s.k - x) m) in
          let w = (wrapped s (wrap s (n + x) + skip (s.k - x) m) (omega arith)).below in
          fine (wrap s (n + x)) (wrap s (wrap s (n + x) + skip (s.k - x) m)) b (omega arith) (past_not (skip (s.k - x) m) y (skip_not (s.k - x) m)) p e

      far_fine : (p : Place) → In p (far_places s n x) → Fine p
      far_fine p h =
          ⊎_elim (λ z. row_fine (wrap s (n + x)) (wrapped s (n + x) (omega arith)).below p (subst (λ ps. In p ps) (far_row s n x z) h))
          (λ d. let some : 1 ≤ s.b = omega arith in local_fine some p (subst (λ ps. In p ps) (far_local s n x some) h)) (cases_eq s.b 0)

    sheet_fine : (p : Place) → In p (sheet s n) → Fine p
    sheet_fine = by_part s n Fine (row_fine n hn) (λ t l u v. step_fine t l u v) (λ x far below. far_fine x far below)

  module _ (hn : s.k ≤ n) where
    parity_fine : (p : Place) → In p (node_sheet s n) → Fine p
    parity_fine p h =
        let z = from_offset s (least_offset s n) p (subst (λ ps. In p ps) (sheet_parity s n hn) h) in
        let y = z.1 in
        (z.0, omega arith, λ e. omega arith)

  pub node_fine : n < nodes s → (p : Place) → In p (node_sheet s n) → Fine p
  node_fine hn p h =
      ⊎_elim (λ t. sheet_fine t p (subst (λ ps. In p ps) (sheet_data s n t) h)) (λ t. parity_fine t p h) (cases_lt n s.k)

  -- some place is read
  some_place : n < nodes s → (i : ℕ) × (c : ℕ) × In (at i c) (node_sheet s n)
  unfolding sheet
  some_place hn =
      ⊎_elim
      (λ t. (n, skip n 0, subst (λ ps. In (at n (skip n 0)) ps) (sym (sheet_data s n t)) (in_own_sheet t)))
      (λ t. (s.k - 1, 0, subst (λ ps. In (at (s.k - 1) 0) ps) (sym (sheet_parity s n t)) (in_offset s (least_offset s n) (s.k - 1) 0 (omega arith) (omega arith) (far t))))
      (cases_lt n s.k)
    where
      in_own_sheet : n < s.k → In (at n (skip n 0)) (sheet s n)
      in_own_sheet t = in_distinct (listing s n) (at n (skip n 0)) (in_row s n 0 (omega arith))

      far : s.k ≤ n → least_offset s n ≤ offset s (s.k - 1) 0
      far t =
          ⊎_elim
          (λ o. ⊎_elim (λ g. omega (arith, o.1, least_a s n g)) (λ g. omega (arith, o.1, least_b s n g)) (cases_lt n (s.k + s.a)))
          (λ o. absurd (omega (arith, o.0))) (offset_cases s (s.k - 1) 0 (omega arith) (omega arith))

-- no sheet is larger than the data
module _ (s : Parameters) where
  square : s.k * s.k ≡ s.k * (s.k - 3) + s.k * 3
  square = ap (λ n. s.k * n) (omega arith) ∙ mul-add s.k (s.k - 3) 3

  few_local : 1 ≤ s.b → sheet_size s ≤ s.k * s.k
  few_local some =
      let e = square in
      let f : s.k * 3 ≡ s.k + s.k + s.k = omega arith in
      let g : reach s * (reach s - 1) ≤ s.k * (s.k - 3) = mul-le-mul (omega arith) (omega arith) in
      omega arith

  few_rows : s.b ≡ 0 → s.k + s.tau + (s.k - s.tau - 1) * s.k ≤ s.k * s.k
  few_rows none =
      let e : s.k * s.k ≡ (s.k - s.tau - 1) * s.k + (s.tau + 1) * s.k = ap (λ n. n * s.k) (omega arith) ∙ add-mul (s.k - s.tau - 1) (s.tau + 1) s.k in
      let f : (s.tau + 1) * s.k ≡ s.tau * s.k + s.k = add-mul s.tau 1 s.k ∙ ap (λ n. s.tau * s.k + n) (omega arith) in
      let g : s.tau * 1 ≤ s.tau * s.k = mul-le-mul (omega arith) (omega arith) in
      omega arith

pub stands : AllStand
unfolding node_sheet sheet_of
stands s m hm = record {
  once = sheet_once;
  few = sheet_few;
  inside = λ i c e. let f = node_fine s m hm (at i c) (in_listed (node_sheet s m) (at i c) e) in (f.0, f.1);
  apart = λ i e. (node_fine s m hm (at i m) (in_listed (node_sheet s m) (at i m) e)).2 refl;
  some = let (i, c, h) = some_place s m hm in (i, c, listed_in (node_sheet s m) (at i c) h);
}
  where
    sheet_once : distinct (node_sheet s m) ≡ node_sheet s m
    sheet_once = distinct_twice (places_of (mend_entries s m))

    sheet_few : length (node_sheet s m) ≤ s.k * s.k
    sheet_few =
        ⊎_elim
        (λ t.
        ⊎_elim (λ z. let a = sized_rows s z m t in let b = few_rows s z in omega (arith, a, b))
        (λ d. let y : 1 ≤ s.b = omega arith in let a = sized s y m t in let b = few_local s y in omega (arith, a, b)) (cases_eq s.b 0))
        (λ t.
        let a : length (node_sheet s m) ≡ s.k * (s.k - least_offset s m) = ap length (sheet_parity s m t) ∙ offset_length s (least_offset s m) in
        let b : s.k * (s.k - least_offset s m) ≤ s.k * s.k = mul-le-mul (omega arith) (omega arith) in
        omega arith) (cases_lt m s.k)
