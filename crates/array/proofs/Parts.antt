-- What the listing of a data node has. Assumes nothing.
use Rattle.std.proofs.Common.{◌≡◌, ℕ, ◌+◌, ◌-◌, ◌<◌, ◌≤◌, List, [], ◌∷◌, ◌++◌, map, sym, refl, ap, ◌∙◌, subst, ap₂, inl, inr, ⊎_elim, arith}
use Rattle.std.specs.List.{range_with_len}
use Rattle.std.proofs.lemmas.List.{map-append}
use Rattle.std.proofs.lemmas.Bool.Decides.{nat_tests}
use Rattle.std.proofs.lemmas.Bool.{cases_lt}
use Rattle.array.specs.declared.parameters.Parameters.{Parameters}
use Rattle.sheet.specs.declared.place.Place.{Place}
use Rattle.sheet.specs.declared.place.Entry.{Entry}
use Rattle.sheet.specs.declared.place.Part.{Part}
use Rattle.sheet.specs.declared.place.Part.TheVariants.{First, Second, Third, Fourth}
use Rattle.array.specs.Layout.{steps, reach, wrap, step_node, skip}
use Rattle.sheet.specs.Places.{at, in_part, places_of}
use Rattle.array.specs.Each.{each}
use Rattle.array.specs.Sheet.{row_places, step_places, local_places, far_places, far_offsets, entries, listing, sheet}
use Rattle.array.proofs.Members.{In, in_left, in_right, in_append, in_map, in_counting, in_each, from_counting, from_each, from_distinct}
use Rattle.array.proofs.Wraps.{skip_onto}

pub unpart : (part : Part) (ps : List Place) → map (λ (e : Entry). e.place) (in_part part ps) ≡ ps
unpart part [] = refl
unpart part (p ∷ ps) = ap (λ qs. p ∷ qs) (unpart part ps)

pub listing_parts : (s : Parameters) (j : ℕ)
    → listing s j ≡ row_places s j j ++ (step_places s j 1 s.tau ++ (step_places s j (s.tau + 1) s.b ++ each (far_places s j) (far_offsets s)))
unfolding listing entries places_of
listing_parts s j =
    let f : Entry → Place = λ e. e.place in
    let A = row_places s j j in
    let B = step_places s j 1 s.tau in
    let C = step_places s j (s.tau + 1) s.b in
    let D = each (far_places s j) (far_offsets s) in
    map-append f (in_part First A) (in_part Second B ++ (in_part Third C ++ in_part Fourth D))
    ∙ ap₂ ◌++◌ (unpart First A)
    (map-append f (in_part Second B) (in_part Third C ++ in_part Fourth D)
    ∙ ap₂ ◌++◌ (unpart Second B) (map-append f (in_part Third C) (in_part Fourth D) ∙ ap₂ ◌++◌ (unpart Third C) (unpart Fourth D)))

module _ (s : Parameters) (j : ℕ) where
  in_parts : (p : Place) → In p (row_places s j j ++ (step_places s j 1 s.tau ++ (step_places s j (s.tau + 1) s.b ++ each (far_places s j) (far_offsets s)))) → In p (listing s j)
  in_parts p h = subst (λ ps. In p ps) (sym (listing_parts s j)) h

  pub in_row_places : (i c : ℕ) → c < s.k → In (at i (skip j c)) (row_places s j i)
  unfolding row_places
  in_row_places i c h = in_map (λ c. at i (skip j c)) c (range_with_len 0 s.k) (in_counting c 0 s.k (omega arith) (omega arith))

  pub in_row : (c : ℕ) → c < s.k → In (at j (skip j c)) (listing s j)
  in_row c h = in_parts _ (in_left _ (row_places s j j) _ (in_row_places j c h))

  -- row j at each other data node
  pub in_own : (c : ℕ) → j < s.k → c < s.k → (c ≡ j → ⊥) → In (at j c) (listing s j)
  in_own c hj hc n =
      let (l, e, a, b, g) = skip_onto j c n in
      subst (λ t. In (at j t) (listing s j)) e (in_row l (omega arith))

  pub in_step : (t : ℕ) → 1 ≤ t → t ≤ steps s → In (at j (step_node s t)) (listing s j)
  unfolding step_places
  in_step t a b =
      let f : ℕ → Place = λ t. at j (step_node s t) in
      in_parts _ (in_right _ (row_places s j j) _
      (⊎_elim
      (λ h. in_right _ (step_places s j 1 s.tau) _ (in_left _ (step_places s j (s.tau + 1) s.b) _ (in_map f t (range_with_len (s.tau + 1) s.b) (in_counting t (s.tau + 1) s.b (omega arith) (omega arith)))))
      (λ h. in_left _ (step_places s j 1 s.tau) _ (in_map f t (range_with_len 1 s.tau) (in_counting t 1 s.tau (omega arith) (omega arith))))
      (cases_lt s.tau t)))

  pub in_far : (x : ℕ) → steps s < x → x < s.k → (p : Place) → In p (far_places s j x) → In p (listing s j)
  in_far x a b p h =
      in_parts _ (in_right _ (row_places s j j) _ (in_right _ (step_places s j 1 s.tau) _ (in_right _ (step_places s j (s.tau + 1) s.b) _
      (in_each (far_places s j) p x (far_offsets s) (in_counting x (steps s + 1) (reach s - 1) (omega arith) (omega arith)) h))))

  pub far_row : (x : ℕ) → s.b ≡ 0 → far_places s j x ≡ row_places s j (wrap s (j + x))
  unfolding far_places
  far_row x e = grind (arith, nat_tests)

  pub far_local : (x : ℕ) → 1 ≤ s.b → far_places s j x ≡ local_places s x (wrap s (j + x))
  unfolding far_places
  far_local x h = grind (arith, nat_tests)

-- what holds of each part's places holds of the sheet's
pub by_part : (s : Parameters) (j : ℕ) (P : Place → Type 0) → ((p : Place) → In p (row_places s j j) → P p)
    → ((t l : ℕ) → 1 ≤ t → t + l ≤ steps s + 1 → (p : Place) → In p (step_places s j t l) → P p)
    → ((x : ℕ) → steps s < x → x < s.k → (p : Place) → In p (far_places s j x) → P p) → (p : Place) → In p (sheet s j) → P p
unfolding sheet
by_part s j P row step far p h =
    ⊎_elim (row p)
    (λ r.
    ⊎_elim (step 1 s.tau (omega arith) (omega arith) p)
    (λ q.
    ⊎_elim (step (s.tau + 1) s.b (omega arith) (omega arith) p)
    (λ t.
    let (x, g, f) = from_each (far_places s j) p (far_offsets s) t in
    let (a, b) = from_counting x (steps s + 1) (reach s - 1) g in
    far x (omega arith) (omega arith) p f)
    (in_append p (step_places s j (s.tau + 1) s.b) (each (far_places s j) (far_offsets s)) q))
    (in_append p (step_places s j 1 s.tau) (step_places s j (s.tau + 1) s.b ++ each (far_places s j) (far_offsets s)) r))
    (in_append p (row_places s j j) (step_places s j 1 s.tau ++ (step_places s j (s.tau + 1) s.b ++ each (far_places s j) (far_offsets s)))
    (subst (λ ps. In p ps) (listing_parts s j) (from_distinct (listing s j) p h)))

pub in_local_node : (s : Parameters) (x i : ℕ) → In (at i (step_node s (steps s))) (local_places s x i)
unfolding local_places
in_local_node s x i = inl refl

pub in_local_step : (s : Parameters) (x i : ℕ) → In (at (wrap s (i + steps s)) i) (local_places s x i)
unfolding local_places
in_local_step s x i = inr (inl refl)

pub in_local_past : (s : Parameters) (x i m : ℕ) → x < s.k → steps s < x → 1 ≤ m → m ≤ reach s - 1 → (m ≡ s.k - x → ⊥) → In (at i (wrap s (i + m))) (local_places s x i)
unfolding local_places
in_local_past s x i m hx hs h1 h2 n =
    let (l, e, a, b, g) = skip_onto (s.k - x) m n in
    let f : ℕ → Place = λ m. at i (wrap s (i + skip (s.k - x) m)) in
    let (p, q) = bounds l a b g e in
    inr (inr (subst (λ t. In (at i (wrap s (i + t))) (map f (range_with_len 1 (reach s - 2)))) e
    (in_map f l (range_with_len 1 (reach s - 2)) (in_counting l 1 (reach s - 2) p q))))
  where
    bounds : (l : ℕ) → l ≤ m → m ≤ l + 1 → (s.k - x < m → m ≡ l + 1) → skip (s.k - x) l ≡ m → (1 ≤ l) × (l < 1 + (reach s - 2))
    bounds l a b g e = ⊎_elim (λ h. let r = g h in (omega arith, omega arith)) (λ h. (grind (arith, nat_tests), grind (arith, nat_tests))) (cases_lt (s.k - x) m)
