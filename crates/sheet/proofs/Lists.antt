-- Lists of places: what `listed` and `distinct` give. Assumes nothing.
use Rattle.std.proofs.Common.{◌≡◌, ℕ, zero, suc, ◌+◌, ◌<◌, ◌≤◌, Bool, true, false, cond, ◌||◌, eqb, List, [], ◌∷◌, ◌++◌, length, get_or, sym, refl, ap, ◌∙◌, inl, inr, arith}
use Rattle.std.proofs.Math.Bool.{or_assoc, or-false}
use Rattle.std.proofs.lemmas.List.{length_push, length-map, length-append, get_or-map, map-append}
use Rattle.std.proofs.lemmas.Bool.{eqb-true, eq-eqb, and_parts, cond-true, cond-false, cases_Bool, or_left, or_right}
use Rattle.sheet.specs.declared.place.Place.{Place}
use Rattle.sheet.specs.declared.place.Entry.{Entry}
use Rattle.sheet.specs.Places.{at, same_place, listed, with_place, distinct_from, distinct, places_of}

pub same_place_true : (p q : Place) → same_place p q ≡ true → (p.row ≡ q.row) × (p.node ≡ q.node)
same_place_true p q e = let t = and_parts (eqb p.row q.row) (eqb p.node q.node) e in (eqb-true p.row q.row t.0, eqb-true p.node q.node t.1)

pub same_place_refl : (p : Place) → same_place p p ≡ true
same_place_refl p = rw (eq-eqb p.row p.row refl, eq-eqb p.node p.node refl)

-- places with the same row and node are one
pub same_place_path : (p q : Place) → same_place p q ≡ true → p ≡ q
same_place_path p q e = let t = same_place_true p q e in ap (λ i. at i p.node) t.0 ∙ ap (λ j. at q.row j) t.1

pub listed_append : (xs ys : List Place) (p : Place) → listed (xs ++ ys) p ≡ (listed xs p || listed ys p)
unfolding listed
listed_append [] ys p = refl
listed_append (x ∷ xs) ys p = ap (λ b. same_place p x || b) (listed_append xs ys p) ∙ sym (or_assoc (same_place p x) (listed xs p) (listed ys p))

-- one place more
pub listed_push : (xs : List Place) (x p : Place) → listed (xs ++ (x ∷ [])) p ≡ (listed xs p || (same_place p x || false))
unfolding listed
listed_push xs x p = listed_append xs (x ∷ []) p

pub distinct_append : (seen xs ys : List Place) → distinct_from seen (xs ++ ys) ≡ distinct_from (distinct_from seen xs) ys
unfolding distinct_from
distinct_append seen [] ys = refl
distinct_append seen (x ∷ xs) ys = distinct_append (with_place seen x) xs ys

pub distinct_push : (xs : List Place) (p : Place) → distinct (xs ++ (p ∷ [])) ≡ with_place (distinct xs) p
unfolding distinct distinct_from
distinct_push xs p = distinct_append [] xs (p ∷ [])

pub distinct_skip : (xs : List Place) (p : Place) → listed (distinct xs) p ≡ true → distinct (xs ++ (p ∷ [])) ≡ distinct xs
unfolding with_place
distinct_skip xs p e = distinct_push xs p ∙ cond-true (listed (distinct xs) p) _ _ e

pub distinct_keep : (xs : List Place) (p : Place) → listed (distinct xs) p ≡ false → distinct (xs ++ (p ∷ [])) ≡ distinct xs ++ (p ∷ [])
unfolding with_place
distinct_keep xs p e = distinct_push xs p ∙ cond-false (listed (distinct xs) p) _ _ e

-- where on a list a place stands
pub listed_find : (ps : List Place) (p d : Place) → listed ps p ≡ true → (t : ℕ) × (t < length ps) × (get_or ps t d ≡ p)
unfolding listed
listed_find [] p d e = cc
listed_find (x ∷ ps) p d e = go (same_place p x) refl e (listed_find ps p d)
  where
    go : (b : Bool) → same_place p x ≡ b → (b || listed ps p) ≡ true → (listed ps p ≡ true → (t : ℕ) × (t < length ps) × (get_or ps t d ≡ p)) → (t : ℕ) × (t < length (x ∷ ps)) × (get_or (x ∷ ps) t d ≡ p)
    go true s h rest = (zero, omega arith, sym (same_place_path p x s))
    go false s h rest = let r = rest h in (suc r.0, omega (arith, r.1), r.2)

pub listed_at : (ps : List Place) (t : ℕ) (d : Place) → t < length ps → listed ps (get_or ps t d) ≡ true
unfolding listed
listed_at [] t d lt = absurd (omega arith)
listed_at (x ∷ ps) zero d lt = rw (same_place_refl x)
listed_at (x ∷ ps) (suc t) d lt = or_right (same_place (get_or ps t d) x) (listed ps (get_or ps t d)) (listed_at ps t d (omega arith))

listed_with : (seen : List Place) (x p : Place) → listed (with_place seen x) p ≡ (listed seen p || (same_place p x || false))
unfolding with_place
listed_with seen x p = go (listed seen x) refl
  where
    go : (b : Bool) → listed seen x ≡ b → listed (cond b seen (seen ++ (x ∷ []))) p ≡ (listed seen p || (same_place p x || false))
    go false e = listed_push seen x p
    go true e = old (same_place p x) refl
      where
        old : (b : Bool) → same_place p x ≡ b → listed seen p ≡ (listed seen p || (b || false))
        old true s = let q : listed seen p ≡ true = ap (listed seen) (same_place_path p x s) ∙ e in q ∙ sym (ap (λ b. b || true) q)
        old false s = sym (or-false (listed seen p))

listed_from : (seen xs : List Place) (p : Place) → listed (distinct_from seen xs) p ≡ (listed seen p || listed xs p)
unfolding distinct_from listed
listed_from seen [] p = sym (or-false (listed seen p))
listed_from seen (x ∷ xs) p = listed_from (with_place seen x) xs p ∙ ap (λ b. b || listed xs p) (listed_with seen x p) ∙ simp (or_assoc, or-false)

-- a listing and its sheet have the same places
pub listed_distinct : (xs : List Place) (p : Place) → listed (distinct xs) p ≡ listed xs p
unfolding distinct listed
listed_distinct xs p = listed_from [] xs p

pub distinct_one : (p : Place) → distinct (p ∷ []) ≡ p ∷ []
unfolding distinct distinct_from with_place listed
distinct_one p = refl

pub listed_one : (x p : Place) → listed (x ∷ []) p ≡ true → p ≡ x
unfolding listed
listed_one x p e = go (same_place p x) refl e
  where
    go : (b : Bool) → same_place p x ≡ b → (b || false) ≡ true → p ≡ x
    go true s h = same_place_path p x s
    go false s h = cc

pub one_listed : (p : Place) → listed (p ∷ []) p ≡ true
unfolding listed
one_listed p = or_left (same_place p p) false (same_place_refl p)

-- a place that stands on a listing
pub listed_mid : (xs : List Place) (p : Place) (ys : List Place) → listed (xs ++ (p ∷ ys)) p ≡ true
unfolding listed
listed_mid xs p ys = listed_append xs (p ∷ ys) p ∙ or_right (listed xs p) (same_place p p || listed ys p) (or_left (same_place p p) (listed ys p) (same_place_refl p))

-- a place listed again
pub listed_again : (xs : List Place) (p q : Place) → listed xs p ≡ true → listed (xs ++ (p ∷ [])) q ≡ listed xs q
listed_again xs p q e = sym (listed_distinct (xs ++ (p ∷ [])) q) ∙ ap (λ x. listed x q) (distinct_skip xs p (listed_distinct xs p ∙ e)) ∙ listed_distinct xs q

-- skipping repeats adds no place
with_place_most : (xs : List Place) (p : Place) → length (with_place xs p) ≤ length xs + 1
unfolding with_place
with_place_most xs p = go (listed xs p)
  where
    go : (b : Bool) → length (cond b xs (xs ++ (p ∷ []))) ≤ length xs + 1
    go true = omega arith
    go false = omega (arith, length_push xs p)

distinct_most : (seen xs : List Place) → length (distinct_from seen xs) ≤ length seen + length xs
unfolding distinct_from
distinct_most seen [] = omega arith
distinct_most seen (x ∷ xs) = omega (arith, with_place_most seen x, distinct_most (with_place seen x) xs)

pub distinct_few : (xs : List Place) → length (distinct xs) ≤ length xs
unfolding distinct
distinct_few xs = omega (arith, distinct_most [] xs)

-- a listing without repeats has each place for the first time
pub once_new : (xs : List Place) (p : Place) (ys : List Place) → distinct (xs ++ (p ∷ ys)) ≡ xs ++ (p ∷ ys) → listed xs p ≡ false
unfolding distinct distinct_from with_place
once_new xs p ys once = elim (cases_Bool (listed xs p)) [
  | inr e ↦ e
  | inl e ↦
      let skip : distinct_from [] (xs ++ (p ∷ ys)) ≡ distinct_from (distinct_from [] xs) ys = distinct_append [] xs (p ∷ ys) ∙ ap (λ seen. distinct_from seen ys) (cond-true (listed (distinct_from [] xs) p) _ _ (listed_distinct xs p ∙ e)) in
      absurd (omega (arith, ap length (sym once ∙ skip), length-append xs (p ∷ ys), distinct_most (distinct_from [] xs) ys, distinct_most [] xs))
]

-- the places of a listing in parts
pub places_length : (es : List Entry) → length (places_of es) ≡ length es
unfolding places_of
places_length es = length-map es (λ e. e.place)

pub places_at : (es : List Entry) (i : ℕ) (e : Entry) → i < length es → e ≡ get_or es i e → e.place ≡ get_or (places_of es) i e.place
unfolding places_of
places_at es i e lt here = ap (λ x. x.place) here ∙ sym (get_or-map (λ x. x.place) es i e e.place lt)

pub places_append : (xs ys : List Entry) → places_of (xs ++ ys) ≡ places_of xs ++ places_of ys
unfolding places_of
places_append xs ys = map-append (λ e. e.place) xs ys
