-- The data nodes of an offset and more in a row, node rising. Assumes nothing.
use Rattle.std.proofs.Common.{◌≡◌, ℕ, ◌+◌, ◌-◌, ◌*◌, ◌<◌, ◌≤◌, List, [], map, length, sym, ap, ◌∙◌, subst, ⊎_elim, arith}
use Rattle.std.specs.List.{range_with_len}
use Rattle.std.proofs.lemmas.List.FromFn.{length-map-range_with_len}
use Rattle.std.proofs.lemmas.Bool.Decides.{nat_tests}
use Rattle.std.proofs.lemmas.Bool.{cases_lt}
use Rattle.sheet.specs.declared.place.Place.{Place}
use Rattle.sheet.specs.Places.{at, distinct}
use Rattle.array.specs.declared.parameters.Parameters.{Parameters}
use Rattle.array.specs.Layout.{offset}
use Rattle.array.specs.Sheet.{kept_node, offset_places}
use Rattle.array.proofs.Members.{In, in_map, in_counting, in_each, from_map, from_counting, from_each}
use Rattle.array.proofs.Wraps.{offset_cases}
use Rattle.array.proofs.Once.{once_map, distinct_once, distinct_each, length_each}

-- the nodes rise, stay below k, and are those of the offset t and more
pub kept_rises : (t i l m : ℕ) → l < m → kept_node t i l < kept_node t i m
kept_rises t i l m h = grind (arith, nat_tests)

module _ (s : Parameters) (t i : ℕ) (hi : i < s.k) where
  pub kept_below : (l : ℕ) → l < s.k - t → kept_node t i l < s.k
  kept_below l h = grind (arith, nat_tests)

  pub kept_offset : (l : ℕ) → l < s.k - t → t ≤ offset s i (kept_node t i l)
  kept_offset l h = let b = kept_below l h in ⊎_elim (λ c. let e = c.1 in grind (arith, nat_tests)) (λ c. let e = c.1 in grind (arith, nat_tests)) (offset_cases s i (kept_node t i l) hi b)

  pub kept_onto : (c : ℕ) → c < s.k → t ≤ offset s i c → (l : ℕ) × (l < s.k - t) × (kept_node t i l ≡ c)
  kept_onto c hc h =
      ⊎_elim
      (λ o.
      let (a, e) = o in
      ⊎_elim (λ b. (c, omega arith, grind (arith, nat_tests))) (λ b. (c, omega arith, grind (arith, nat_tests))) (cases_lt (i + 1) t))
      (λ o.
      let (a, e) = o in
      ⊎_elim (λ b. (c - (i + 1), omega arith, grind (arith, nat_tests))) (λ b. (c - t, omega arith, grind (arith, nat_tests))) (cases_lt (i + 1) t))
      (offset_cases s i c hi hc)

module _ (s : Parameters) (t : ℕ) where
  abbrev row_of : ℕ → List Place
  row_of i = map (λ c. at i (kept_node t i c)) (range_with_len 0 (s.k - t))

  pub in_offset : (i c : ℕ) → i < s.k → c < s.k → t ≤ offset s i c → In (at i c) (offset_places s t)
  unfolding offset_places
  in_offset i c hi hc h =
      let (l, b, e) = kept_onto s t i hi c hc h in
      in_each row_of (at i c) i (range_with_len 0 s.k) (in_counting i 0 s.k (omega arith) (omega arith))
      (subst (λ c. In (at i c) (row_of i)) e (in_map (λ c. at i (kept_node t i c)) l (range_with_len 0 (s.k - t)) (in_counting l 0 (s.k - t) (omega arith) (omega arith))))

  pub from_offset : (p : Place) → In p (offset_places s t) → (p.row < s.k) × (p.node < s.k) × (t ≤ offset s p.row p.node)
  unfolding offset_places
  from_offset p h =
      let (i, u, v) = from_each row_of p (range_with_len 0 s.k) h in
      let (lo, hi) = from_counting i 0 s.k u in
      let (l, w, e) = from_map (λ c. at i (kept_node t i c)) p (range_with_len 0 (s.k - t)) v in
      let (a, b) = from_counting l 0 (s.k - t) w in
      let ik : i < s.k = omega arith in
      let lk : l < s.k - t = omega arith in
      subst (λ p. (p.row < s.k) × (p.node < s.k) × (t ≤ offset s p.row p.node)) (sym e) (ik, kept_below s t i ik l lk, kept_offset s t i ik l lk)

  pub offset_once : distinct (offset_places s t) ≡ offset_places s t
  unfolding distinct offset_places
  offset_once =
      distinct_each [] row_of row_of 0 s.k
      (λ i u v seen has new. distinct_once seen (row_of i) (once_map (λ c. at i (kept_node t i c)) 0 (s.k - t) (λ l m p q r e. let f : kept_node t i l ≡ kept_node t i m = ap (λ q. q.node) e in omega (arith, f, kept_rises t i l m q))) new)
      (λ x y u v w p h k. let e : x ≡ y = sym (row x p h) ∙ row y p k in omega arith) [] (λ p h. h) (λ x u v p h. absurd h)
    where
      row : (i : ℕ) (p : Place) → In p (row_of i) → p.row ≡ i
      row i p h = ap (λ q. q.row) (from_map (λ c. at i (kept_node t i c)) p (range_with_len 0 (s.k - t)) h).2

  pub offset_length : length (offset_places s t) ≡ s.k * (s.k - t)
  unfolding offset_places
  offset_length = length_each row_of 0 s.k (s.k - t) (λ i u v. length-map-range_with_len (λ c. at i (kept_node t i c)) 0 (s.k - t))
