-- What the listing of a data node has at an index. Assumes nothing.
use Rattle.std.proofs.Common.{◌≡◌, ℕ, zero, suc, ◌+◌, ◌-◌, ◌*◌, ◌/◌, ◌%◌, ◌<◌, ◌≤◌, eqb, List, [], ◌∷◌, ◌++◌, map, length, get_or, sym, refl, ap, ◌∙◌, subst, ⊎_elim, ap₂, mod-lt, suc-mul, div-lt_iff_lt-mul, arith, length-append}
use native.Mathlib.Nat.{mod-add-div'}
use Rattle.std.specs.List.{range_with_len}
use Rattle.std.proofs.lemmas.List.{length-map}
use Rattle.std.proofs.lemmas.List.FromFn.{length-map-range_with_len}
use Rattle.std.proofs.lemmas.Bool.{cases_eq, cond-true, cond-false, cond_both, eq-eqb, ne_eqb}
use Rattle.array.specs.declared.parameters.Parameters.{Parameters}
use Rattle.sheet.specs.declared.place.Place.{Place}
use Rattle.sheet.specs.declared.place.Entry.{Entry}
use Rattle.sheet.specs.declared.place.Part.{Part}
use Rattle.sheet.specs.declared.place.Part.TheVariants.{First, Second, Third, Fourth}
use Rattle.array.specs.Layout.{steps, reach, wrap, step_node, skip}
use Rattle.sheet.specs.Places.{at, in_part}
use Rattle.array.specs.Each.{each}
use Rattle.array.specs.Sheet.{row_places, step_places, local_places, far_places, far_width, far_offsets, entries}
use Rattle.array.proofs.Once.{length_each}
use Rattle.array.proofs.Parts.{far_row, far_local}

-- x stands at i
abbrev pub At : {A : Type 0} → List A → ℕ → A → Type 0
At [] i x = ⊥
At (y ∷ ys) zero x = x ≡ y
At (y ∷ ys) (suc i) x = At ys i x

pub at_read : {A : Type 0} (xs : List A) (i : ℕ) (x d : A) → At xs i x → x ≡ get_or xs i d
at_read [] i x d h = absurd h
at_read (y ∷ ys) zero x d h = h
at_read (y ∷ ys) (suc i) x d h = at_read ys i x d h

pub at_left : {A : Type 0} (xs ys : List A) (i : ℕ) (x : A) → At xs i x → At (xs ++ ys) i x
at_left [] ys i x h = absurd h
at_left (y ∷ xs) ys zero x h = h
at_left (y ∷ xs) ys (suc i) x h = at_left xs ys i x h

pub at_right : {A : Type 0} (xs ys : List A) (i n : ℕ) (x : A) → n ≡ length xs + i → At ys i x → At (xs ++ ys) n x
at_right [] ys i n x e h = subst (λ m. At ys m x) (sym (e ∙ omega arith)) h
at_right (y ∷ xs) ys i zero x e h = absurd (omega arith)
at_right (y ∷ xs) ys i (suc n) x e h = at_right xs ys i n x (omega arith) h

pub at_map : {A B : Type 0} (f : A → B) (xs : List A) (i : ℕ) (x : A) → At xs i x → At (map f xs) i (f x)
at_map f [] i x h = absurd h
at_map f (y ∷ xs) zero x h = ap f h
at_map f (y ∷ xs) (suc i) x h = at_map f xs i x h

pub at_counted : {A : Type 0} (f : ℕ → A) (a n l m : ℕ) → l < n → a + l ≡ m → At (map f (range_with_len a n)) l (f m)
at_counted f a zero l m h e = absurd (omega arith)
at_counted f a (suc n) zero m h e = ap f (omega arith)
at_counted f a (suc n) (suc l) m h e = at_counted f (a + 1) n l m (omega arith) (omega arith)

pub at_each : {A : Type 0} (f : ℕ → List A) (a n w q l m : ℕ) (y : A) → ((x : ℕ) → a ≤ x → x < a + n → length (f x) ≡ w)
    → q < n → m ≡ q * w + l → At (f (a + q)) l y → At (each f (range_with_len a n)) m y
unfolding each
at_each f a zero w q l m y lens h e i = absurd (omega arith)
at_each f a (suc n) w zero l m y lens h e i =
    let z : a + 0 ≡ a = omega arith in
    let c : l ≡ m = omega arith in
    at_left (f a) (each f (range_with_len (a + 1) n)) m y (subst (λ m. At (f a) m y) c (subst (λ t. At (f t) l y) z i))
at_each f a (suc n) w (suc q) l m y lens h e i =
    let z : a + suc q ≡ a + 1 + q = omega arith in
    let c = suc-mul q w in
    let d = lens a (omega arith) (omega arith) in
    at_right (f a) (each f (range_with_len (a + 1) n)) (q * w + l) m y (omega arith)
    (at_each f (a + 1) n w q l (q * w + l) y (λ x p r. lens x (omega arith) (omega arith)) (omega arith) refl (subst (λ t. At (f t) l y) z i))

-- the places that give a symbol of offset x past S, in row i
module _ (s : Parameters) (x i : ℕ) where
  pub local_last : (l : ℕ) → l ≡ 0 → At (local_places s x i) l (at i (step_node s (steps s)))
  unfolding local_places
  local_last l e = subst (λ l. At (local_places s x i) l (at i (step_node s (steps s)))) (sym e) refl

  pub local_next : (l : ℕ) → l ≡ 1 → At (local_places s x i) l (at (wrap s (i + steps s)) i)
  unfolding local_places
  local_next l e = subst (λ l. At (local_places s x i) l (at (wrap s (i + steps s)) i)) (sym e) refl

  pub local_past : (l : ℕ) → 2 ≤ l → l < reach s → At (local_places s x i) l (at i (wrap s (i + skip (s.k - x) (l - 1))))
  unfolding local_places
  local_past zero a b = absurd (omega arith)
  local_past (suc zero) a b = absurd (omega arith)
  local_past (suc (suc l)) a b = at_counted (λ m. at i (wrap s (i + skip (s.k - x) m))) 1 (reach s - 2) l (suc (suc l) - 1) (omega arith) (omega arith)

  -- a place, from its row and node
  pub local_read : (l r m r' m' : ℕ) → At (local_places s x i) l (at r' m') → r ≡ r' → m ≡ m' → at r m ≡ get_or (local_places s x i) l (at r m)
  local_read l r m r' m' h e f = ap₂ at e f ∙ at_read (local_places s x i) l (at r' m') (at r m) h

abbrev pub entry : Part → Place → Entry
entry part p = record { part = part; place = p }

module _ (s : Parameters) (j : ℕ) where
  -- lengths
  pub row_length : (i : ℕ) → length (row_places s j i) ≡ s.k
  unfolding row_places
  row_length i = length-map-range_with_len (λ c. at i (skip j c)) 0 s.k

  pub step_length : (t n : ℕ) → length (step_places s j t n) ≡ n
  unfolding step_places
  step_length t n = length-map-range_with_len (λ t. at j (step_node s t)) t n

  pub far_length : (x : ℕ) → steps s < x → x < s.k → length (far_places s j x) ≡ far_width s
  unfolding local_places
  far_length x far below =
      ⊎_elim (λ z. ap length (far_row s j x z) ∙ row_length (wrap s (j + x)) ∙ sym (cond-true (eqb s.b 0) s.k (reach s) (eq-eqb s.b 0 z)))
      (λ n.
      let e = length-map-range_with_len (λ m. at (wrap s (j + x)) (wrap s (wrap s (j + x) + skip (s.k - x) m))) 1 (reach s - 2) in
      let b : 1 ≤ s.b = omega arith in
      ap length (far_local s j x b) ∙ local_length x (wrap s (j + x)) far below ∙ sym (cond-false (eqb s.b 0) s.k (reach s) (ne_eqb s.b 0 n)))
      (cases_eq s.b 0)
    where
      local_length : (x i : ℕ) → steps s < x → x < s.k → length (local_places s x i) ≡ reach s
      local_length x i far below = let e = length-map-range_with_len (λ m. at i (wrap s (i + skip (s.k - x) m))) 1 (reach s - 2) in omega arith

  abbrev A : List Entry
  A = in_part First (row_places s j j)

  abbrev B : List Entry
  B = in_part Second (step_places s j 1 s.tau)

  abbrev C : List Entry
  C = in_part Third (step_places s j (s.tau + 1) s.b)

  abbrev D : List Entry
  D = in_part Fourth (each (far_places s j) (far_offsets s))

  length_a : length A ≡ s.k
  length_a = length-map (row_places s j j) (entry First) ∙ row_length j

  length_b : length B ≡ s.tau
  length_b = length-map (step_places s j 1 s.tau) (entry Second) ∙ step_length 1 s.tau

  length_c : length C ≡ s.b
  length_c = length-map (step_places s j (s.tau + 1) s.b) (entry Third) ∙ step_length (s.tau + 1) s.b

  length_d : length D ≡ (reach s - 1) * far_width s
  length_d =
      length-map (each (far_places s j) (far_offsets s)) (entry Fourth)
      ∙ length_each (far_places s j) (steps s + 1) (reach s - 1) (far_width s) (λ x a b. far_length x (omega arith) (omega arith))

  pub entries_length : s.k + steps s + (reach s - 1) * far_width s ≡ length (entries s j)
  unfolding entries
  entries_length =
      let a = length_a in
      let b = length_b in
      let c = length_c in
      let d = length_d in
      let x = length-append A (B ++ (C ++ D)) in
      let y = length-append B (C ++ D) in
      let z = length-append C D in
      omega arith

  -- the parts, by index
  pub row_at : (i : ℕ) → i < s.k → At (entries s j) i (entry First (at j (skip j i)))
  unfolding entries row_places
  row_at i h = at_left A (B ++ (C ++ D)) i _ (at_map (entry First) (row_places s j j) i _ (at_counted (λ c. at j (skip j c)) 0 s.k i i h (omega arith)))

  pub piggyback_at : (i t : ℕ) → i + 1 ≡ s.k + t → 1 ≤ t → t ≤ s.tau → At (entries s j) i (entry Second (at j (step_node s t)))
  unfolding entries step_places
  piggyback_at i t e a b =
      let l = length_a in
      at_right A (B ++ (C ++ D)) (t - 1) i _ (omega arith)
      (at_left B (C ++ D) (t - 1) _ (at_map (entry Second) (step_places s j 1 s.tau) (t - 1) _ (at_counted (λ t. at j (step_node s t)) 1 s.tau (t - 1) t (omega arith) (omega arith))))

  pub local_at : (i t : ℕ) → i + 1 ≡ s.k + t → s.tau < t → t ≤ steps s → At (entries s j) i (entry Third (at j (step_node s t)))
  unfolding entries step_places
  local_at i t e a b =
      let l = length_a in
      let m = length_b in
      let u = t - 1 - s.tau in
      at_right A (B ++ (C ++ D)) (t - 1) i _ (omega arith)
      (at_right B (C ++ D) u (t - 1) _ (omega arith)
      (at_left C D u _ (at_map (entry Third) (step_places s j (s.tau + 1) s.b) u _ (at_counted (λ t. at j (step_node s t)) (s.tau + 1) s.b u t (omega arith) (omega arith)))))

  pub far_at : (i q l : ℕ) (p : Place) → i ≡ s.k + steps s + (q * far_width s + l) → q < reach s - 1 → At (far_places s j (steps s + 1 + q)) l p → At (entries s j) i (entry Fourth p)
  unfolding entries
  far_at i q l p e h g =
      let a = length_a in
      let b = length_b in
      let c = length_c in
      let n = q * far_width s + l in
      at_right A (B ++ (C ++ D)) (s.tau + (s.b + n)) i _ (omega arith)
      (at_right B (C ++ D) (s.b + n) (s.tau + (s.b + n)) _ (omega arith)
      (at_right C D n (s.b + n) _ (omega arith)
      (at_map (entry Fourth) (each (far_places s j) (far_offsets s)) n p
      (at_each (far_places s j) (steps s + 1) (reach s - 1) (far_width s) q l n p (λ x a b. far_length x (omega arith) (omega arith)) h refl g))))

  -- the places of an offset past S, by index
  pub far_row_at : (x l : ℕ) → s.b ≡ 0 → l < s.k → At (far_places s j x) l (at (wrap s (j + x)) (skip j l))
  unfolding row_places
  far_row_at x l z h =
      subst (λ ps. At ps l (at (wrap s (j + x)) (skip j l))) (sym (far_row s j x z)) (at_counted (λ c. at (wrap s (j + x)) (skip j c)) 0 s.k l l h (omega arith))

-- an index past the steps: its offset, and the index among the places of that offset
pub far_index : (s : Parameters) (rest : ℕ) → rest < (reach s - 1) * far_width s → 1 ≤ far_width s
    → (rest / far_width s < reach s - 1) × (rest % far_width s < far_width s) × (rest ≡ rest / far_width s * far_width s + rest % far_width s)
far_index s rest h w =
    ((div-lt_iff_lt-mul (omega arith)).1 h, mod-lt rest (omega arith), omega (arith, mod-add-div' rest (far_width s)))

pub at_from : {A : Type 0} (xs : List A) (i : ℕ) (x d : A) → i < length xs → x ≡ get_or xs i d → At xs i x
at_from [] i x d h e = absurd (omega arith)
at_from (y ∷ ys) zero x d h e = e
at_from (y ∷ ys) (suc i) x d h e = at_from ys i x d (omega arith) e

width_positive : (s : Parameters) → 1 ≤ far_width s
width_positive s = cond_both (eqb s.b 0) s.k (reach s) (λ w. 1 ≤ w) (λ e. omega arith) (λ e. omega arith)

-- an index past the steps, as the code has it
module _ (s : Parameters) (j i S S' w : ℕ) (is : S ≡ steps s) (is' : S' ≡ steps s) (width : w ≡ far_width s) (past : s.k + S ≤ i) (inside : i < length (entries s j)) where
  abbrev rest : ℕ
  rest = i - (s.k + S)

  index : (rest / w < reach s - 1) × (rest % w < w) × (rest ≡ rest / w * w + rest % w)
  index =
      subst (λ w. (rest / w < reach s - 1) × (rest % w < w) × (rest ≡ rest / w * w + rest % w)) (sym width)
      (far_index s rest (let e = entries_length s j in omega arith) (width_positive s))

  pub far_within : (steps s < S' + 1 + rest / w) × (S' + 1 + rest / w < s.k) × (rest % w < far_width s)
  far_within = let (q, l, e) = index in (omega arith, omega arith, omega arith)

  pub far_read : (p : Place) → p ≡ get_or (far_places s j (S' + 1 + rest / w)) (rest % w) p → entry Fourth p ≡ get_or (entries s j) i (entry Fourth p)
  far_read p h =
      let (q, l, e) = index in
      let (a, b, c) = far_within in
      let x : S' + 1 + rest / w ≡ steps s + 1 + rest / w = omega arith in
      let f : rest / w * w ≡ rest / w * far_width s = ap (λ w'. rest / w * w') width in
      at_read (entries s j) i (entry Fourth p) (entry Fourth p)
      (far_at s j i (rest / w) (rest % w) p (omega arith) q
      (subst (λ x. At (far_places s j x) (rest % w) p) x
      (at_from (far_places s j (S' + 1 + rest / w)) (rest % w) p p (let z = far_length s j (S' + 1 + rest / w) a b in omega arith) h)))
