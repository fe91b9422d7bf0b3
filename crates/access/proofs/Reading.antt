-- The places that a fetch reads. Assumes nothing.
use Rattle.std.proofs.Common.{◌≡◌, ℕ, ◌+◌, ◌-◌, ◌<◌, ◌≤◌, ◌&&◌, ltb, leb, ◌⊎◌, List, ◌∷◌, map, length, sym, ap, ◌∙◌, subst, inl, inr, ⊎_elim, arith}
use Rattle.std.specs.List.{range_with_len}
use Rattle.std.proofs.lemmas.List.FromFn.{length-map-range_with_len}
use Rattle.sheet.specs.declared.place.Place.{Place}
use Rattle.sheet.specs.Places.{at}
use Rattle.array.specs.declared.parameters.Parameters.{Parameters}
use Rattle.array.specs.Layout.{nodes, steps, reach, wrap, offset, step_node, skip}
use Rattle.array.specs.Sheet.{row_places, local_places}
use Rattle.array.proofs.Members.{In, from_map, from_counting}
use Rattle.array.proofs.Once.{Once, once_map}
use Rattle.array.proofs.Wraps.{wrapped, skip_cases, skip_not, skip_injective}
use Rattle.std.proofs.lemmas.Bool.{cases_lt, cond-true, cond-false, and_from, and_left, and_right, lt-ltb, le-ltb, le-leb, lt-leb}
use Rattle.access.specs.declared.fetch.Way.{Way}
use Rattle.access.specs.declared.fetch.Way.TheVariants.{OwnRow, OwnStep, LastStep}
use Rattle.array.proofs.Indexed.{row_length}
use Rattle.access.specs.Fetch.{way_of, step_reads, reads, lesser, fetch_size}
use Rattle.access.proofs.Offsets.{by_way, x_below, off_diagonal, past_node}

-- the one parity place that is read
abbrev pub parity_place : Parameters → ℕ → ℕ → ℕ → Way → Place
parity_place p i j x OwnRow = at i p.k
parity_place p i j x OwnStep = at j (step_node p x)
parity_place p i j x LastStep = at i (step_node p (steps p))

skip_bounds : (y c : ℕ) → (c ≤ skip y c) × (skip y c ≤ c + 1)
skip_bounds y c = ⊎_elim (λ s. let e = s.1 in (omega arith, omega arith)) (λ s. let e = s.1 in (omega arith, omega arith)) (skip_cases y c)

skip_rises : (y l m : ℕ) → l < m → skip y l < skip y m
skip_rises y l m h =
    ⊎_elim
    (λ p. ⊎_elim (λ q. omega (arith, p.0, p.1, q.0, q.1)) (λ q. omega (arith, p.0, p.1, q.0, q.1)) (skip_cases y m))
    (λ p. ⊎_elim (λ q. omega (arith, p.0, p.1, q.0, q.1)) (λ q. omega (arith, p.0, p.1, q.0, q.1)) (skip_cases y m)) (skip_cases y l)

module _ (p : Parameters) (i j : ℕ) (hi : i < p.k) (hj : j < p.k) (x : ℕ) (is : offset p i j ≡ x) where
  -- a place that is read is a data place but the one that is sought, or the parity place
  abbrev pub Read : Place → Way → Type 0
  Read q w = ((q.row < p.k) × (q.node < p.k) × (q ≡ at i j → ⊥)) ⊎ (q ≡ parity_place p i j x w)

  data_read : (w : Way) (r c : ℕ) → r < p.k → c < p.k → (r ≡ i → c ≡ j → ⊥) → (q : Place) → q ≡ at r c → Read q w
  data_read w r c hr hc n q e = inl (subst (λ q. (q.row < p.k) × (q.node < p.k) × (q ≡ at i j → ⊥)) (sym e) (hr, hc, λ z. n (ap (λ t. t.row) z) (ap (λ t. t.node) z)))

  row_read : (q : Place) → In q (row_places p j i) → Read q OwnRow
  unfolding row_places
  row_read q h =
      let (c, g, e) = from_map (λ c. at i (skip j c)) q (range_with_len 0 p.k) h in
      let (a, b) = from_counting c 0 p.k g in
      ⊎_elim (λ s. let f = s.1 in data_read OwnRow i (skip j c) hi (omega arith) (λ u v. skip_not j c v) q e)
      (λ s. last c e b s.0 s.1) (skip_cases j c)
    where
      last : (c : ℕ) → q ≡ at i (skip j c) → c < 0 + p.k → j ≤ c → skip j c ≡ c + 1 → Read q OwnRow
      last c e b g f =
          ⊎_elim (λ l. data_read OwnRow i (skip j c) hi (omega arith) (λ u v. skip_not j c v) q e)
          (λ l. inr (e ∙ ap (λ m. at i m) (omega arith))) (cases_lt (c + 1) p.k)

  step_read : p.tau < x → (q : Place) → In q (step_reads p j x) → Read q OwnStep
  unfolding step_reads
  step_read far q (inl e) = inr e
  step_read far q (inr h) =
      let (m, g, e) = from_map (λ m. at j (wrap p (j + m))) q (range_with_len 1 (p.k - x - 1)) h in
      let (a, b) = from_counting m 1 (p.k - x - 1) g in
      data_read OwnStep j (wrap p (j + m)) hj (wrapped p (j + m) (omega arith)).below (λ u v. off_diagonal p i j hi hj x is (omega arith) (sym u)) q e

  last_read : steps p < x → (q : Place) → In q (local_places p x i) → Read q LastStep
  unfolding local_places
  last_read far q (inl e) = inr e
  last_read far q (inr (inl e)) =
      data_read LastStep (wrap p (i + steps p)) i (wrapped p (i + steps p) (omega arith)).below hi (λ u v. off_diagonal p i j hi hj x is (omega arith) v) q e
  last_read far q (inr (inr h)) =
      let (m, g, e) = from_map (λ m. at i (wrap p (i + skip (p.k - x) m))) q (range_with_len 1 (reach p - 2)) h in
      let (a, b) = from_counting m 1 (reach p - 2) g in
      let (u, v) = skip_bounds (p.k - x) m in
      data_read LastStep i (wrap p (i + skip (p.k - x) m)) hi (wrapped p (i + skip (p.k - x) m) (omega arith)).below
      (λ _ z. skip_not (p.k - x) m (past_node p i j hi hj x is (skip (p.k - x) m) (omega arith) (omega arith) z)) q e

  pub read : (q : Place) → In q (reads p i j x (way_of p x)) → Read q (way_of p x)
  read q = by_way p x (λ w. In q (reads p i j x w) → Read q w) (λ _. row_read q) (λ a b. step_read a q) (λ a b. last_read a q)

  pub parity_inside : ((parity_place p i j x (way_of p x)).row < p.k) × ((parity_place p i j x (way_of p x)).node < nodes p)
  parity_inside = by_way p x (λ w. ((parity_place p i j x w).row < p.k) × ((parity_place p i j x w).node < nodes p)) (λ _. (hi, omega arith)) (λ a b. (hj, omega arith)) (λ a b. (hi, omega arith))

  pub parity_past : p.k ≤ (parity_place p i j x (way_of p x)).node
  parity_past = by_way p x (λ w. p.k ≤ (parity_place p i j x w).node) (λ _. omega arith) (λ a b. omega arith) (λ a b. omega arith)

  -- no place is read twice
  wrap_apart : (r y z : ℕ) → r < p.k → y < z → z < p.k → wrap p (r + y) ≡ wrap p (r + z) → ⊥
  wrap_apart r y z hr a b e =
      let u = wrapped p (r + y) (omega arith) in
      let w = wrapped p (r + z) (omega arith) in
      ⊎_elim (λ f. ⊎_elim (λ g. omega arith) (λ g. omega arith) w.either) (λ f. ⊎_elim (λ g. omega arith) (λ g. omega arith) w.either) u.either

  row_once : Once (row_places p j i)
  unfolding row_places
  row_once = once_map (λ c. at i (skip j c)) 0 p.k (λ l m a b c e. let f = skip_injective j l m (ap (λ t. t.node) e) in omega arith)

  step_once : p.tau < x → Once (step_reads p j x)
  unfolding step_reads
  step_once far = (
    λ h.
        let (m, g, e) = from_map (λ m. at j (wrap p (j + m))) (at j (step_node p x)) (range_with_len 1 (p.k - x - 1)) h in
        let (a, b) = from_counting m 1 (p.k - x - 1) g in
        let n : step_node p x ≡ wrap p (j + m) = ap (λ t. t.node) e in
        let w = (wrapped p (j + m) (omega arith)).below in
        omega arith,
    once_map (λ m. at j (wrap p (j + m))) 1 (p.k - x - 1) (λ l m a b c e. wrap_apart j l m hj b (omega arith) (ap (λ t. t.node) e)),
  )

  last_once : steps p < x → Once (local_places p x i)
  unfolding local_places
  last_once far = (λ h. head h, (λ h. next h, once_map (λ m. at i (wrap p (i + skip (p.k - x) m))) 1 (reach p - 2) (λ l m a b c e. rising l m a b c (ap (λ t. t.node) e))))
    where
      rest : List Place
      rest = map (λ m. at i (wrap p (i + skip (p.k - x) m))) (range_with_len 1 (reach p - 2))

      head : In (at i (step_node p (steps p))) (at (wrap p (i + steps p)) i ∷ rest) → ⊥
      head (inl e) = let n : step_node p (steps p) ≡ i = ap (λ t. t.node) e in omega arith
      head (inr h) =
          let (m, g, e) = from_map (λ m. at i (wrap p (i + skip (p.k - x) m))) (at i (step_node p (steps p))) (range_with_len 1 (reach p - 2)) h in
          let (a, b) = from_counting m 1 (reach p - 2) g in
          let (u, v) = skip_bounds (p.k - x) m in
          let n : step_node p (steps p) ≡ wrap p (i + skip (p.k - x) m) = ap (λ t. t.node) e in
          let w = (wrapped p (i + skip (p.k - x) m) (omega arith)).below in
          omega arith

      next : In (at (wrap p (i + steps p)) i) rest → ⊥
      next h =
          let (m, g, e) = from_map (λ m. at i (wrap p (i + skip (p.k - x) m))) (at (wrap p (i + steps p)) i) (range_with_len 1 (reach p - 2)) h in
          let n : wrap p (i + steps p) ≡ i = ap (λ t. t.row) e in
          let w = wrapped p (i + steps p) (omega arith) in
          ⊎_elim (λ f. omega arith) (λ f. omega arith) w.either

      rising : (l m : ℕ) → 1 ≤ l → l < m → m < 1 + (reach p - 2) → wrap p (i + skip (p.k - x) l) ≡ wrap p (i + skip (p.k - x) m) → ⊥
      rising l m a b c e =
          let (u, v) = skip_bounds (p.k - x) m in
          wrap_apart i (skip (p.k - x) l) (skip (p.k - x) m) hi (skip_rises (p.k - x) l m b) (omega arith) e

  pub reads_once : Once (reads p i j x (way_of p x))
  reads_once = by_way p x (λ w. Once (reads p i j x w)) (λ _. row_once) (λ a b. step_once a) (λ a b. last_once a)

  -- how many are read
  pub step_size : p.tau < x → length (step_reads p j x) ≡ p.k - x
  unfolding step_reads
  step_size far = let e = length-map-range_with_len (λ m. at j (wrap p (j + m))) 1 (p.k - x - 1) in let b = x_below p i j hi hj x is in omega arith

  pub last_size : steps p < x → length (local_places p x i) ≡ p.k - steps p
  unfolding local_places
  last_size far =
      let e = length-map-range_with_len (λ m. at i (wrap p (i + skip (p.k - x) m))) 1 (reach p - 2) in let b = x_below p i j hi hj x is in omega arith

  size_row : (x ≤ p.tau) ⊎ (p.b ≡ 0) → p.k ≡ fetch_size p x
  size_row h =
      sym (cond-false (ltb p.tau x && ltb 0 p.b) _ _
      (⊎_elim (λ a. and_left (ltb p.tau x) (ltb 0 p.b) (le-ltb p.tau x a)) (λ z. and_right (ltb p.tau x) (ltb 0 p.b) (le-ltb 0 p.b (omega arith))) h))

  size_local : p.tau < x → 1 ≤ p.b → p.k - lesser x (steps p) ≡ fetch_size p x
  size_local a b = sym (cond-true (ltb p.tau x && ltb 0 p.b) _ _ (and_from (ltb p.tau x) (ltb 0 p.b) (lt-ltb p.tau x a) (lt-ltb 0 p.b b)))

  pub reads_size : length (reads p i j x (way_of p x)) ≡ fetch_size p x
  reads_size =
      by_way p x (λ w. length (reads p i j x w) ≡ fetch_size p x) (λ h. row_length p j i ∙ size_row h)
      (λ a b. step_size a ∙ ap (λ t. p.k - t) (sym (cond-true (leb x (steps p)) _ _ (le-leb x (steps p) b))) ∙ size_local a (omega arith))
      (λ a b. last_size a ∙ ap (λ t. p.k - t) (sym (cond-false (leb x (steps p)) _ _ (lt-leb x (steps p) a))) ∙ size_local (omega arith) b)
