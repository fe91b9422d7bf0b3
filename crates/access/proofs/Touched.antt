-- The places that a put changes. Assumes nothing.
use Rattle.std.proofs.Common.{◌≡◌, ℕ, ◌+◌, ◌-◌, ◌<◌, ◌≤◌, ◌&&◌, leb, ◌⊎◌, List, [], ◌∷◌, ◌++◌, length, sym, refl, ap, ◌∙◌, subst, inl, inr, ⊎_elim, arith, length-append}
use Rattle.std.specs.List.{range_with_len}
use Rattle.std.proofs.lemmas.List.FromFn.{length-map-range_with_len}
use Rattle.std.proofs.lemmas.Bool.{cond_both, cond-true, and_parts, and_from, leb-true, leb-false, le-leb}
use Rattle.sheet.specs.declared.place.Place.{Place}
use Rattle.sheet.specs.Places.{at}
use Rattle.array.specs.declared.parameters.Parameters.{Parameters}
use Rattle.array.specs.Layout.{nodes, steps, offset, step_node}
use Rattle.array.proofs.Members.{In, in_left, in_right, in_append, in_map, in_counting, from_map, from_counting}
use Rattle.array.proofs.Once.{Once, Disjoint, once_map}
use Rattle.access.specs.Put.{rule_places, crossings, crossed_places, carries, carried_places, put_places, put_size}
use Rattle.access.proofs.Offsets.{off_diagonal}

once_append : {A : Type 0} (xs ys : List A) → Once xs → Once ys → Disjoint xs ys → Once (xs ++ ys)
once_append [] ys a b d = b
once_append (x ∷ xs) ys (n, a) b d = (λ h. ⊎_elim n (λ k. d x (inl refl) k) (in_append x xs ys h), once_append xs ys a b (λ y h k. d y (inr h) k))

-- the steps that cross a row
pub crossing : (p : Parameters) (x t : ℕ) → p.tau + 1 ≤ t → t < p.tau + 1 + crossings p x → (t ≤ steps p) × (t < x)
crossing p x t a =
    cond_both (leb (steps p) (x - 1)) _ _ (λ y. t < p.tau + 1 + (y - p.tau) → (t ≤ steps p) × (t < x))
    (λ e h. let g = leb-true (steps p) (x - 1) e in (omega arith, omega arith)) (λ e h. let g = leb-false (steps p) (x - 1) e in (omega arith, omega arith))

to_crossing : (p : Parameters) (x t : ℕ) → p.tau < t → t ≤ steps p → t < x → t < p.tau + 1 + crossings p x
to_crossing p x t a b c = cond_both (leb (steps p) (x - 1)) _ _ (λ y. t < p.tau + 1 + (y - p.tau)) (λ e. omega arith) (λ e. omega arith)

-- the step that carries a symbol
pub carrying : (p : Parameters) (x t : ℕ) → x ≤ t → t < x + carries p x → (t ≡ x) × (1 ≤ x) × (x ≤ steps p)
carrying p x t a =
    cond_both (leb 1 x && leb x (steps p)) _ _ (λ c. t < x + c → (t ≡ x) × (1 ≤ x) × (x ≤ steps p))
    (λ e h. let (u, w) = and_parts (leb 1 x) (leb x (steps p)) e in (omega arith, leb-true 1 x u, leb-true x (steps p) w)) (λ e h. absurd (omega arith))

to_carrying : (p : Parameters) (x : ℕ) → 1 ≤ x → x ≤ steps p → carries p x ≡ 1
to_carrying p x a b = cond-true (leb 1 x && leb x (steps p)) _ _ (and_from (leb 1 x) (leb x (steps p)) (le-leb 1 x a) (le-leb x (steps p) b))

pub carries_few : (p : Parameters) (x : ℕ) → carries p x ≤ 1
carries_few p x = cond_both (leb 1 x && leb x (steps p)) _ _ (λ c. c ≤ 1) (λ e. omega arith) (λ e. omega arith)

module _ (p : Parameters) (i j : ℕ) (hi : i < p.k) (hj : j < p.k) (x : ℕ) (is : offset p i j ≡ x) where
  -- a place at a Class A node, at a Class B node that crosses the row, and at the node that carries the symbol
  pub record Rule (q : Place) : Type 0 where
    pub row : q.row ≡ i
    pub from : p.k ≤ q.node
    pub below : q.node < p.k + p.a

  pub record Crossed (q : Place) : Type 0 where
    pub step : ℕ
    pub row : q.row ≡ i
    pub node : q.node ≡ step_node p step
    pub past : p.tau < step
    pub within : step ≤ steps p
    pub before : step < x

  pub record Carried (q : Place) : Type 0 where
    pub row : q.row ≡ j
    pub node : q.node ≡ step_node p x
    pub some : 1 ≤ x
    pub within : x ≤ steps p

  abbrev pub Touched : Place → Type 0
  Touched q = (q ≡ at i j) ⊎ (Rule q ⊎ (Crossed q ⊎ Carried q))

  rule_kind : (q : Place) → In q (rule_places p i) → Rule q
  unfolding rule_places
  rule_kind q h =
      let (c, g, e) = from_map (λ c. at i (p.k + c)) q (range_with_len 0 p.a) h in
      let (a, b) = from_counting c 0 p.a g in
      subst (λ q. Rule q) (sym e) (record { row = refl; from = omega arith; below = omega arith })

  crossed_kind : (q : Place) → In q (crossed_places p i x) → Crossed q
  unfolding crossed_places
  crossed_kind q h =
      let (t, g, e) = from_map (λ t. at i (step_node p t)) q (range_with_len (p.tau + 1) (crossings p x)) h in
      let (a, b) = from_counting t (p.tau + 1) (crossings p x) g in
      let (u, w) = crossing p x t a b in
      subst (λ q. Crossed q) (sym e) (record { step = t; row = refl; node = refl; past = omega arith; within = u; before = w })

  carried_kind : (q : Place) → In q (carried_places p j x) → Carried q
  unfolding carried_places
  carried_kind q h =
      let (t, g, e) = from_map (λ t. at j (step_node p t)) q (range_with_len x (carries p x)) h in
      let (a, b) = from_counting t x (carries p x) g in
      let (s, u, w) = carrying p x t a b in
      subst (λ q. Carried q) (sym e) (record { row = refl; node = ap (λ t. step_node p t) s; some = u; within = w })

  tail_kind : (q : Place) → In q (rule_places p i ++ (crossed_places p i x ++ carried_places p j x)) → Rule q ⊎ (Crossed q ⊎ Carried q)
  tail_kind q h =
      ⊎_elim (λ l. inl (rule_kind q l))
      (λ r. inr (⊎_elim (λ l. inl (crossed_kind q l)) (λ l. inr (carried_kind q l)) (in_append q (crossed_places p i x) (carried_places p j x) r)))
      (in_append q (rule_places p i) (crossed_places p i x ++ carried_places p j x) h)

  pub touched : (q : Place) → In q (put_places p i j x) → Touched q
  unfolding put_places
  touched q (inl e) = inl e
  touched q (inr h) = inr (tail_kind q h)

  -- and each of them is changed
  pub in_data : In (at i j) (put_places p i j x)
  unfolding put_places
  in_data = inl refl

  pub in_rule : (m : ℕ) → p.k ≤ m → m < p.k + p.a → In (at i m) (put_places p i j x)
  unfolding put_places rule_places
  in_rule m a b =
      let e : p.k + (m - p.k) ≡ m = omega arith in
      inr (in_left _ (rule_places p i) _
      (subst (λ n. In (at i n) (rule_places p i)) e (in_map (λ c. at i (p.k + c)) (m - p.k) (range_with_len 0 p.a) (in_counting (m - p.k) 0 p.a (omega arith) (omega arith)))))

  pub in_crossed : (t : ℕ) → p.tau < t → t ≤ steps p → t < x → In (at i (step_node p t)) (put_places p i j x)
  unfolding put_places crossed_places
  in_crossed t a b c =
      inr (in_right _ (rule_places p i) _ (in_left _ (crossed_places p i x) _
      (in_map (λ t. at i (step_node p t)) t (range_with_len (p.tau + 1) (crossings p x)) (in_counting t (p.tau + 1) (crossings p x) (omega arith) (to_crossing p x t a b c)))))

  pub in_carried : 1 ≤ x → x ≤ steps p → In (at j (step_node p x)) (put_places p i j x)
  unfolding put_places carried_places
  in_carried a b =
      let e = to_carrying p x a b in
      inr (in_right _ (rule_places p i) _ (in_right _ (crossed_places p i x) _
      (in_map (λ t. at j (step_node p t)) x (range_with_len x (carries p x)) (in_counting x x (carries p x) (omega arith) (omega arith)))))

  -- no place twice
  rule_once : Once (rule_places p i)
  unfolding rule_places
  rule_once = once_map (λ c. at i (p.k + c)) 0 p.a (λ l m a b c e. let n : p.k + l ≡ p.k + m = ap (λ q. q.node) e in omega arith)

  crossed_once : Once (crossed_places p i x)
  unfolding crossed_places
  crossed_once = once_map (λ t. at i (step_node p t)) (p.tau + 1) (crossings p x) (λ l m a b c e. let n : step_node p l ≡ step_node p m = ap (λ q. q.node) e in omega arith)

  carried_once : Once (carried_places p j x)
  unfolding carried_places
  carried_once = once_map (λ t. at j (step_node p t)) x (carries p x) (λ l m a b c e. let f = carries_few p x in omega arith)

  pub put_once : Once (put_places p i j x)
  unfolding put_places
  put_once = (
    λ h. ⊎_elim (λ q. let f = q.from in omega arith) (λ q. ⊎_elim (λ q. let f = q.node in omega arith) (λ q. let f = q.node in omega arith) q) (tail_kind (at i j) h),
    once_append (rule_places p i) (crossed_places p i x ++ carried_places p j x) rule_once
        (once_append (crossed_places p i x) (carried_places p j x) crossed_once carried_once
        (λ q h k. let u = crossed_kind q h in let w = carried_kind q k in off_diagonal p i j hi hj x is w.some (sym u.row ∙ w.row)))
        (λ q h k.
        let u = rule_kind q h in
        ⊎_elim (λ l. let w = crossed_kind q l in let n = w.node in let s = w.past in omega arith)
        (λ l. let w = carried_kind q l in off_diagonal p i j hi hj x is w.some (sym u.row ∙ w.row)) (in_append q (crossed_places p i x) (carried_places p j x) k)),
  )

  -- how many there are
  pub put_length : length (put_places p i j x) ≡ put_size p x
  unfolding put_places rule_places crossed_places carried_places
  put_length =
      let a = length-map-range_with_len (λ c. at i (p.k + c)) 0 p.a in
      let b = length-map-range_with_len (λ t. at i (step_node p t)) (p.tau + 1) (crossings p x) in
      let c = length-map-range_with_len (λ t. at j (step_node p t)) x (carries p x) in
      let u = length-append (rule_places p i) (crossed_places p i x ++ carried_places p j x) in
      let w = length-append (crossed_places p i x) (carried_places p j x) in
      omega arith

  pub touched_inside : (r m : ℕ) → Touched (at r m) → (r < p.k) × (m < nodes p)
  touched_inside r m (inl e) = let a : r ≡ i = ap (λ q. q.row) e in let b : m ≡ j = ap (λ q. q.node) e in (omega arith, omega arith)
  touched_inside r m (inr (inl q)) = let a = q.row in let b = q.below in (omega arith, omega arith)
  touched_inside r m (inr (inr (inl q))) = let a = q.row in let b = q.node in let c = q.within in (omega arith, omega arith)
  touched_inside r m (inr (inr (inr q))) = let a = q.row in let b = q.node in let c = q.within in (omega arith, omega arith)
