-- How many places the read sheet of a data node has. Assumes nothing.
use Rattle.std.proofs.Common.{◌≡◌, ℕ, ◌+◌, ◌-◌, ◌*◌, ◌<◌, ◌≤◌, cond, eqb, ltb, ◌⊎◌, List, [], ◌∷◌, ◌++◌, map, length, sym, refl, ap, ◌∙◌, subst, ap₂, inl, inr, ⊎_elim, append_assoc, mul_comm, arith, length-append}
use Rattle.std.specs.List.{range_with_len}
use Rattle.std.proofs.lemmas.List.FromFn.{length-map-range_with_len}
use Rattle.std.proofs.lemmas.Bool.{cases_eq, cases_lt, cond-true, cond-false, eq-eqb, ne_eqb, lt-ltb, le-ltb}
use Rattle.array.specs.declared.parameters.Parameters.{Parameters}
use Rattle.sheet.specs.declared.place.Place.{Place}
use Rattle.array.specs.Layout.{steps, reach, wrap, step_node, skip}
use Rattle.sheet.specs.Places.{at, distinct_from, distinct}
use Rattle.array.specs.Each.{each}
use Rattle.array.specs.Sheet.{row_places, step_places, local_places, far_places, far_offsets, sheet}
use Rattle.array.specs.Theorems.{sheet_size, Sized, SizedRows}
use Rattle.array.proofs.Members.{In, in_left, in_append, from_map, from_counting}
use Rattle.array.proofs.Wraps.{wrapped, wrapped_is, skip_bounds, skip_onto, skip_injective, row_not, rows_apart}
use Rattle.array.proofs.Parts.{listing_parts, in_row_places, far_row, far_local}
use Rattle.array.proofs.Restoring.{sheet_data}
use Rattle.array.proofs.Once.{Once, Disjoint, once_map, distinct_append, distinct_new, distinct_old, distinct_once, distinct_each, disjoint_append, length_each, length_each_but}

module _ (s : Parameters) where
  -- a place whose symbol has offset S
  abbrev Step : Place → Type 0
  Step p = (p.node < s.k) × (wrap s (p.node + steps s) ≡ p.row)

  -- what the row and step parts have
  in_row_part : (j i : ℕ) → j < s.k → (p : Place) → In p (row_places s j i) → (p.row ≡ i) × (p.node ≤ s.k)
  unfolding row_places
  in_row_part j i hj p h =
      let (c, g, e) = from_map (λ c. at i (skip j c)) p (range_with_len 0 s.k) h in
      let (a, b) = from_counting c 0 s.k g in
      let n : p.node ≡ skip j c = ap (λ q. q.node) e in
      (ap (λ q. q.row) e, omega (arith, skip_bounds j c))

  in_step_part : (j t n : ℕ) → (p : Place) → In p (step_places s j t n) → (l : ℕ) × (t ≤ l) × (l < t + n) × (p.row ≡ j) × (p.node ≡ step_node s l)
  unfolding step_places
  in_step_part j t n p h =
      let (l, g, e) = from_map (λ t. at j (step_node s t)) p (range_with_len t n) h in
      let (a, b) = from_counting l t n g in
      (l, a, b, ap (λ q. q.row) e, ap (λ q. q.node) e)

  once_row : (j i : ℕ) → Once (row_places s j i)
  unfolding row_places
  once_row j i =
      once_map (λ c. at i (skip j c)) 0 s.k (λ l m a b c e. let q = skip_injective j l m (ap (λ q. q.node) e) in omega arith)

  once_step : (j t n : ℕ) → 1 ≤ t → Once (step_places s j t n)
  unfolding step_places
  once_step j t n h = once_map (λ t. at j (step_node s t)) t n (λ l m a b c e. let q : step_node s l ≡ step_node s m = ap (λ q. q.node) e in omega arith)

  -- one offset past S
  module _ (x i : ℕ) (far : steps s < x) (below : x < s.k) (hi : i < s.k) where
    abbrev pasts : List Place
    pasts = map (λ m. at i (wrap s (i + skip (s.k - x) m))) (range_with_len 1 (reach s - 2))

    -- the places of this offset, but the one that the row part has
    abbrev pub trimmed : List Place
    trimmed = cond (eqb (x + steps s) s.k) (at i (step_node s (steps s)) ∷ pasts) (local_places s x i)

    in_pasts : (p : Place) → In p pasts → (p.row ≡ i) × (p.node < s.k) × ((Step p → ⊥))
    in_pasts p h =
        let (m, g, e) = from_map (λ m. at i (wrap s (i + skip (s.k - x) m))) p (range_with_len 1 (reach s - 2)) h in
        let (a, b) = from_counting m 1 (reach s - 2) g in
        let r : p.row ≡ i = ap (λ q. q.row) e in
        let n : p.node ≡ wrap s (i + skip (s.k - x) m) = ap (λ q. q.node) e in
        let z = within m a b in
        let w = wrapped s (i + skip (s.k - x) m) (omega (arith, z.1)) in
        let wb = w.below in (
          r,
          omega arith,
          λ t.
              let u = wrapped s (p.node + steps s) (omega (arith, t.0)) in
              let ub = t.1 in
              ⊎_elim (λ c. ⊎_elim (λ f. omega (arith, z.0, z.1)) (λ f. omega (arith, z.0, z.1)) u.either)
              (λ c. ⊎_elim (λ f. omega (arith, z.0, z.1)) (λ f. omega (arith, z.0, z.1)) u.either) w.either,
        )
      where
        within : (m : ℕ) → 1 ≤ m → m < 1 + (reach s - 2) → (1 ≤ skip (s.k - x) m) × (skip (s.k - x) m < reach s)
        within m a b = (omega (arith, skip_bounds (s.k - x) m), omega (arith, skip_bounds (s.k - x) m))

    once_pasts : Once pasts
    once_pasts =
        once_map (λ m. at i (wrap s (i + skip (s.k - x) m))) 1 (reach s - 2)
        (λ l m a b c e.
        let q : wrap s (i + skip (s.k - x) l) ≡ wrap s (i + skip (s.k - x) m) = ap (λ q. q.node) e in
        let zl = within l (omega arith) in
        let zm = within m (omega arith) in
        let u = wrapped s (i + skip (s.k - x) l) (omega arith) in
        let w = wrapped s (i + skip (s.k - x) m) (omega arith) in
        let same : skip (s.k - x) l ≡ skip (s.k - x) m
        = ⊎_elim (λ f. ⊎_elim (λ g. omega arith) (λ g. absurd (omega arith)) w.either) (λ f. ⊎_elim (λ g. absurd (omega arith)) (λ g. omega arith) w.either) u.either in
        let z = skip_injective (s.k - x) l m same in
        omega arith)
      where
        within : (m : ℕ) → m < 1 + (reach s - 2) → skip (s.k - x) m < reach s
        within m b = omega (arith, skip_bounds (s.k - x) m)

    -- the row of a symbol of offset S
    step_row : wrap s (i + steps s) ≡ i → ⊥
    step_row e =
        let w = wrapped s (i + steps s) (omega arith) in
        ⊎_elim (λ f. omega arith) (λ f. omega arith) w.either

    step_is : Step (at (wrap s (i + steps s)) i)
    step_is = (hi, refl)

    -- each place but one stands in row i
    pub in_local : (p : Place) → In p (local_places s x i) → ((p.row ≡ i) × (Step p → ⊥)) ⊎ (p ≡ at (wrap s (i + steps s)) i)
    unfolding local_places
    in_local p (inl e) = inl (ap (λ q. q.row) e, λ t. let n : p.node ≡ step_node s (steps s) = ap (λ q. q.node) e in omega (arith, t.0))
    in_local p (inr (inl e)) = inr e
    in_local p (inr (inr h)) = let z = in_pasts p h in inl (z.0, z.2)

    last_not : In (at i (step_node s (steps s))) pasts → ⊥
    last_not h = let z = in_pasts _ h in omega (arith, z.1)

    pub once_local : Once (local_places s x i)
    unfolding local_places
    once_local = (λ h. ⊎_elim (λ e. let n : step_node s (steps s) ≡ i = ap (λ q. q.node) e in omega arith) last_not h, (λ h. let z = in_pasts _ h in step_row z.0, once_pasts))

    length_local : length (local_places s x i) ≡ reach s
    unfolding local_places
    length_local = let e = length-map-range_with_len (λ m. at i (wrap s (i + skip (s.k - x) m))) 1 (reach s - 2) in omega arith

    trimmed_all : (x + steps s ≡ s.k → ⊥) → trimmed ≡ local_places s x i
    trimmed_all n = cond-false (eqb (x + steps s) s.k) _ _ (ne_eqb (x + steps s) s.k n)

    trimmed_but : x + steps s ≡ s.k → trimmed ≡ at i (step_node s (steps s)) ∷ pasts
    trimmed_but e = cond-true (eqb (x + steps s) s.k) _ _ (eq-eqb (x + steps s) s.k e)

    pub length_all : (x + steps s ≡ s.k → ⊥) → length trimmed ≡ reach s
    length_all n = ap length (trimmed_all n) ∙ length_local

    pub length_but : x + steps s ≡ s.k → length trimmed + 1 ≡ reach s
    length_but e =
        let l = length-map-range_with_len (λ m. at i (wrap s (i + skip (s.k - x) m))) 1 (reach s - 2) in
        ap (λ ps. length ps + 1) (trimmed_but e) ∙ omega arith

    -- a place that is kept: its symbol has offset S and stands at node i, or it stands in row i
    pub in_trimmed : (p : Place) → In p trimmed → ((p.row ≡ i) × (Step p → ⊥)) ⊎ ((p ≡ at (wrap s (i + steps s)) i) × (x + steps s ≡ s.k → ⊥))
    in_trimmed p h =
        ⊎_elim
        (λ e. ⊎_elim
        (λ q. inl (ap (λ q. q.row) q, λ t. let n : p.node ≡ step_node s (steps s) = ap (λ q. q.node) q in omega (arith, t.0)))
        (λ g. let z = in_pasts p g in inl (z.0, z.2)) (subst (λ ps. In p ps) (trimmed_but e) h))
        (λ n. ⊎_elim (λ l. inl l) (λ r. inr (r, n)) (in_local p (subst (λ ps. In p ps) (trimmed_all n) h)))
        (cases_eq (x + steps s) s.k)

    -- what is left of this offset's places, after others
    pub distinct_local : (seen : List Place) → (x + steps s ≡ s.k → In (at (wrap s (i + steps s)) i) seen) → Disjoint seen trimmed → distinct_from seen (local_places s x i) ≡ seen ++ trimmed
    unfolding local_places
    distinct_local seen old new =
        ⊎_elim
        (λ e.
        let last = at i (step_node s (steps s)) in
        let d : Disjoint seen (last ∷ pasts) = subst (λ ps. Disjoint seen ps) (trimmed_but e) new in
        distinct_new seen last (at (wrap s (i + steps s)) i ∷ pasts) (λ h. d last h (inl refl))
        ∙ distinct_old (seen ++ (last ∷ [])) (at (wrap s (i + steps s)) i) pasts (in_left _ seen (last ∷ []) (old e))
        ∙ distinct_once (seen ++ (last ∷ [])) pasts once_pasts
        (disjoint_append seen (last ∷ []) pasts (λ p a b. d p a (inr b)) (λ p a b. ⊎_elim (λ q. last_not (subst (λ t. In t pasts) q b)) (λ z. z) a))
        ∙ append_assoc seen (last ∷ []) pasts ∙ ap (λ ps. seen ++ ps) (sym (trimmed_but e)))
        (λ n.
        distinct_once seen (local_places s x i) once_local (subst (λ ps. Disjoint seen ps) (trimmed_all n) new)
        ∙ ap (λ ps. seen ++ ps) (sym (trimmed_all n)))
        (cases_eq (x + steps s) s.k)

  module _ (j : ℕ) (hj : j < s.k) where
    -- the row part and the steps
    abbrev head : List Place
    head = (row_places s j j ++ step_places s j 1 s.tau) ++ step_places s j (s.tau + 1) s.b

    apart_1 : Disjoint (row_places s j j) (step_places s j 1 s.tau)
    apart_1 p a b =
        let (r, n) = in_row_part j j hj p a in
        let (l, e, f, g, h) = in_step_part j 1 s.tau p b in
        omega arith

    apart_2 : Disjoint (row_places s j j ++ step_places s j 1 s.tau) (step_places s j (s.tau + 1) s.b)
    apart_2 =
        disjoint_append (row_places s j j) (step_places s j 1 s.tau) (step_places s j (s.tau + 1) s.b)
        (λ p a b. let (r, n) = in_row_part j j hj p a in let (l, e, f, g, h) = in_step_part j (s.tau + 1) s.b p b in omega arith)
        (λ p a b. let (r, n, m, q, t) = in_step_part j 1 s.tau p a in let (l, e, f, g, h) = in_step_part j (s.tau + 1) s.b p b in omega arith)

    head_row : (p : Place) → In p head → p.row ≡ j
    head_row p h =
        ⊎_elim
        (λ l. ⊎_elim (λ a. (in_row_part j j hj p a).0) (λ b. (in_step_part j 1 s.tau p b).3) (in_append p (row_places s j j) (step_places s j 1 s.tau) l))
        (λ r. (in_step_part j (s.tau + 1) s.b p r).3) (in_append p (row_places s j j ++ step_places s j 1 s.tau) (step_places s j (s.tau + 1) s.b) h)

    length_head : length head ≡ s.k + s.tau + s.b
    unfolding row_places step_places
    length_head =
        let a = length-map-range_with_len (λ c. at j (skip j c)) 0 s.k in
        let b = length-map-range_with_len (λ t. at j (step_node s t)) 1 s.tau in
        let c = length-map-range_with_len (λ t. at j (step_node s t)) (s.tau + 1) s.b in
        let d = length-append (row_places s j j) (step_places s j 1 s.tau) in
        let e = length-append (row_places s j j ++ step_places s j 1 s.tau) (step_places s j (s.tau + 1) s.b) in
        omega arith

    -- repeats can stand in the rest alone
    pub distinct_head : (rest : List Place)
        → distinct (row_places s j j ++ (step_places s j 1 s.tau ++ (step_places s j (s.tau + 1) s.b ++ rest))) ≡ distinct_from head rest
    unfolding distinct
    distinct_head rest =
        let A = row_places s j j in
        let B = step_places s j 1 s.tau in
        let C = step_places s j (s.tau + 1) s.b in
        distinct_append [] A (B ++ (C ++ rest))
        ∙ ap (λ t. distinct_from t (B ++ (C ++ rest))) (distinct_once [] A (once_row j j) (λ p z. absurd z))
        ∙ distinct_append A B (C ++ rest)
        ∙ ap (λ t. distinct_from t (C ++ rest)) (distinct_once A B (once_step j 1 s.tau (omega arith)) apart_1)
        ∙ distinct_append (A ++ B) C rest
        ∙ ap (λ t. distinct_from t rest) (distinct_once (A ++ B) C (once_step j (s.tau + 1) s.b (omega arith)) apart_2)

    row_below : (x : ℕ) → x < s.k → wrap s (j + x) < s.k
    row_below x h = (wrapped s (j + x) (omega arith)).below

    -- the row of the symbol of offset S for the offset x
    step_row_is : (x : ℕ) → x < s.k → (x + steps s ≡ s.k → wrap s (wrap s (j + x) + steps s) ≡ j) × ((x + steps s ≡ s.k → ⊥) → steps s < x → wrap s (wrap s (j + x) + steps s) ≡ j → ⊥)
    step_row_is x h =
        let u = wrapped s (j + x) (omega arith) in
        let b = u.below in
        let w = wrapped s (wrap s (j + x) + steps s) (omega arith) in (
          λ e. ⊎_elim (λ f. wrapped_is s (wrap s (j + x) + steps s) j (omega arith) hj (inr (omega arith))) (λ f. wrapped_is s (wrap s (j + x) + steps s) j (omega arith) hj (inl (omega arith))) u.either,
          λ n g e. ⊎_elim (λ f. ⊎_elim (λ t. omega arith) (λ t. n (omega arith)) w.either) (λ f. ⊎_elim (λ t. n (omega arith)) (λ t. omega arith) w.either) u.either,
        )

    module _ (some : 1 ≤ s.b) where
      abbrev kept : ℕ → List Place
      kept x = cond (eqb (x + steps s) s.k) (at (wrap s (j + x)) (step_node s (steps s)) ∷ map (λ m. at (wrap s (j + x)) (wrap s (wrap s (j + x) + skip (s.k - x) m))) (range_with_len 1 (reach s - 2))) (local_places s x (wrap s (j + x)))

      once_each : (x : ℕ) → steps s < x → x < s.k → (seen : List Place) → ((p : Place) → In p (row_places s j j) → In p seen) → Disjoint seen (kept x)
          → distinct_from seen (far_places s j x) ≡ seen ++ kept x
      once_each x far below seen has new =
          let i = wrap s (j + x) in
          let hi = row_below x below in
          ap (distinct_from seen) (far_local s j x some)
          ∙ distinct_local x i far below hi seen
          (λ e.
          let r = (step_row_is x below).0 e in
          let (c, q, a, b, g) = skip_onto j i (row_not s j x hj (omega arith) below) in
          has _ (subst (λ p. In p (row_places s j j)) (ap₂ at (sym r) q) (in_row_places s j j c (omega arith)))) new

      apart_head : (x : ℕ) → steps s < x → x < s.k → Disjoint head (kept x)
      apart_head x far below p a b =
          let i = wrap s (j + x) in
          let r = head_row p a in
          ⊎_elim (λ t. row_not s j x hj (omega arith) below (sym t.0 ∙ r))
          (λ t. (step_row_is x below).1 t.1 far (sym (ap (λ q. q.row) t.0) ∙ r))
          (in_trimmed x i far below (row_below x below) p b)

      apart_each : (x y : ℕ) → steps s < x → x < y → y < s.k → Disjoint (kept x) (kept y)
      apart_each x y far less below p a b =
          let hx = row_below x (omega arith) in
          let hy = row_below y below in
          let n : wrap s (j + x) ≡ wrap s (j + y) → ⊥ = λ e. let f = rows_apart s j x y hj (omega arith) below e in omega arith in
          ⊎_elim
          (λ t. ⊎_elim (λ u. n (sym t.0 ∙ u.0)) (λ u. t.1 (subst (λ q. Step q) (sym u.0) (step_is y (wrap s (j + y)) (omega arith) below hy))) (in_trimmed y (wrap s (j + y)) (omega arith) below hy p b))
          (λ t. ⊎_elim (λ u. u.1 (subst (λ q. Step q) (sym t.0) (step_is x (wrap s (j + x)) far (omega arith) hx))) (λ u. n (sym (ap (λ q. q.node) t.0) ∙ ap (λ q. q.node) u.0)) (in_trimmed y (wrap s (j + y)) (omega arith) below hy p b))
          (in_trimmed x (wrap s (j + x)) far (omega arith) hx p a)

      -- the sheet
      pub sheet_is : sheet s j ≡ head ++ each kept (far_offsets s)
      unfolding sheet
      sheet_is =
          ap distinct (listing_parts s j)
          ∙ distinct_head (each (far_places s j) (far_offsets s))
          ∙ distinct_each (row_places s j j) (far_places s j) kept (steps s + 1) (reach s - 1)
          (λ x a b. once_each x (omega arith) (omega arith)) (λ x y a b c. apart_each x y (omega arith) b (omega arith)) head
          (λ p h. in_left p (row_places s j j ++ step_places s j 1 s.tau) (step_places s j (s.tau + 1) s.b) (in_left p (row_places s j j) (step_places s j 1 s.tau) h))
          (λ x a b. apart_head x (omega arith) (omega arith))

      pub size_is : length (sheet s j) ≡ sheet_size s
      size_is =
          let l : length (sheet s j) ≡ length head + length (each kept (far_offsets s)) = ap length sheet_is ∙ length-append head (each kept (far_offsets s)) in
          let h = length_head in
          let c = mul_comm (reach s) (reach s - 1) in
          ⊎_elim
          (λ t.
          let e = length_each_but kept (s.k - steps s) (steps s + 1) (reach s - 1) (reach s) (omega arith) (omega arith)
          (length_but (s.k - steps s) (wrap s (j + (s.k - steps s))) (omega arith) (omega arith) (row_below (s.k - steps s) (omega arith)) (omega arith))
          (λ x a b n. length_all x (wrap s (j + x)) (omega arith) (omega arith) (row_below x (omega arith)) (λ z. n (omega arith))) in
          let u : ◌≡◌ {A = ℕ} (cond (ltb (steps s + steps s) s.k) 1 0) 1 = cond-true {A = ℕ} (ltb (steps s + steps s) s.k) 1 0 (lt-ltb (steps s + steps s) s.k t) in
          omega arith)
          (λ t.
          let e = length_each kept (steps s + 1) (reach s - 1) (reach s)
          (λ x a b. length_all x (wrap s (j + x)) (omega arith) (omega arith) (row_below x (omega arith)) (λ z. omega arith)) in
          let u : ◌≡◌ {A = ℕ} (cond (ltb (steps s + steps s) s.k) 1 0) 0 = cond-false {A = ℕ} (ltb (steps s + steps s) s.k) 1 0 (le-ltb (steps s + steps s) s.k t) in
          omega arith)
          (cases_lt (steps s + steps s) s.k)

    module _ (none : s.b ≡ 0) where
      abbrev rows : ℕ → List Place
      rows x = row_places s j (wrap s (j + x))

      pub rows_are : sheet s j ≡ head ++ each rows (far_offsets s)
      unfolding sheet
      rows_are =
          ap distinct (listing_parts s j)
          ∙ distinct_head (each (far_places s j) (far_offsets s))
          ∙ distinct_each [] (far_places s j) rows (steps s + 1) (reach s - 1)
          (λ x a b seen has new. ap (distinct_from seen) (far_row s j x none) ∙ distinct_once seen (rows x) (once_row j (wrap s (j + x))) new)
          (λ x y a b c p g h. let e = rows_apart s j x y hj (omega arith) (omega arith) (sym (in_row_part j (wrap s (j + x)) hj p g).0 ∙ (in_row_part j (wrap s (j + y)) hj p h).0) in omega arith)
          head (λ p h. absurd h)
          (λ x a b p g h. row_not s j x hj (omega arith) (omega arith) (sym (in_row_part j (wrap s (j + x)) hj p h).0 ∙ head_row p g))

      pub size_of_rows : length (sheet s j) ≡ s.k + s.tau + (s.k - s.tau - 1) * s.k
      unfolding row_places
      size_of_rows =
          let l : length (sheet s j) ≡ length head + length (each rows (far_offsets s)) = ap length rows_are ∙ length-append head (each rows (far_offsets s)) in
          let h = length_head in
          let e = length_each rows (steps s + 1) (reach s - 1) s.k (λ x a b. length-map-range_with_len (λ c. at (wrap s (j + x)) (skip j c)) 0 s.k) in
          let z : reach s - 1 ≡ s.k - s.tau - 1 = omega arith in
          let m : (reach s - 1) * s.k ≡ (s.k - s.tau - 1) * s.k = ap (λ n. n * s.k) z in
          omega arith

pub sized : Sized
sized s some j hj = ap length (sheet_data s j hj) ∙ size_is s j hj some

pub sized_rows : SizedRows
sized_rows s none j hj = ap length (sheet_data s j hj) ∙ size_of_rows s j hj none
