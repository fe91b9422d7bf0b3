-- What is on a list. Assumes nothing.
use Rattle.std.proofs.Common.{◌≡◌, ℕ, zero, suc, ◌+◌, ◌<◌, ◌≤◌, Bool, true, false, cond, eqb, ◌⊎◌, List, [], ◌∷◌, ◌++◌, map, sym, refl, ap, subst, ap₂, inl, inr, ⊎_elim, arith}
use Rattle.std.specs.List.{range_with_len}
use Rattle.std.proofs.lemmas.Bool.{eqb-true, eq-eqb, and_parts, and_from, or_cases, or_left, or_right, cases_Bool, cases_eq, both_ways}
use Rattle.sheet.specs.declared.place.Place.{Place}
use Rattle.sheet.specs.Places.{at, same_place, listed, with_place, distinct_from, distinct}
use Rattle.array.specs.Each.{each}

abbrev pub In : {A : Type 0} → A → List A → Type 0
In x [] = ⊥
In x (y ∷ ys) = (x ≡ y) ⊎ In x ys

pub in_left : {A : Type 0} (x : A) (xs ys : List A) → In x xs → In x (xs ++ ys)
in_left x [] ys h = absurd h
in_left x (z ∷ xs) ys (inl e) = inl e
in_left x (z ∷ xs) ys (inr h) = inr (in_left x xs ys h)

pub in_right : {A : Type 0} (x : A) (xs ys : List A) → In x ys → In x (xs ++ ys)
in_right x [] ys h = h
in_right x (z ∷ xs) ys h = inr (in_right x xs ys h)

pub in_append : {A : Type 0} (x : A) (xs ys : List A) → In x (xs ++ ys) → In x xs ⊎ In x ys
in_append x [] ys h = inr h
in_append x (z ∷ xs) ys (inl e) = inl (inl e)
in_append x (z ∷ xs) ys (inr h) = ⊎_elim (λ l. inl (inr l)) (λ r. inr r) (in_append x xs ys h)

pub in_map : {A B : Type 0} (f : A → B) (x : A) (xs : List A) → In x xs → In (f x) (map f xs)
in_map f x [] h = absurd h
in_map f x (z ∷ xs) (inl e) = inl (ap f e)
in_map f x (z ∷ xs) (inr h) = inr (in_map f x xs h)

pub from_map : {A B : Type 0} (f : A → B) (y : B) (xs : List A) → In y (map f xs) → (x : A) × In x xs × (y ≡ f x)
from_map f y [] h = absurd h
from_map f y (z ∷ xs) (inl e) = (z, inl refl, e)
from_map f y (z ∷ xs) (inr h) = let (x, i, e) = from_map f y xs h in (x, inr i, e)

pub in_counting : (l a n : ℕ) → a ≤ l → l < a + n → In l (range_with_len a n)
in_counting l a zero p q = absurd (omega arith)
in_counting l a (suc n) p q = ⊎_elim (λ e. inl e) (λ d. inr (in_counting l (a + 1) n (omega arith) (omega arith))) (cases_eq l a)

pub from_counting : (l a n : ℕ) → In l (range_with_len a n) → (a ≤ l) × (l < a + n)
from_counting l a zero h = absurd h
from_counting l a (suc n) (inl e) = (omega arith, omega arith)
from_counting l a (suc n) (inr h) = let (p, q) = from_counting l (a + 1) n h in (omega arith, omega arith)

pub in_each : {A : Type 0} (f : ℕ → List A) (x : A) (n : ℕ) (ns : List ℕ) → In n ns → In x (f n) → In x (each f ns)
unfolding each
in_each f x n [] h i = absurd h
in_each f x n (m ∷ ns) (inl e) i = in_left x (f m) (each f ns) (subst (λ t. In x (f t)) e i)
in_each f x n (m ∷ ns) (inr h) i = in_right x (f m) (each f ns) (in_each f x n ns h i)

pub from_each : {A : Type 0} (f : ℕ → List A) (x : A) (ns : List ℕ) → In x (each f ns) → (n : ℕ) × In n ns × In x (f n)
unfolding each
from_each f x [] h = absurd h
from_each f x (m ∷ ns) h =
    ⊎_elim (λ l. (m, inl refl, l)) (λ r. let (n, i, g) = from_each f x ns r in (n, inr i, g)) (in_append x (f m) (each f ns) h)

-- tests
same_true : (p q : Place) → same_place p q ≡ true → p ≡ q
same_true p q e =
    let t = and_parts (eqb p.row q.row) (eqb p.node q.node) e in
    ap₂ at (eqb-true p.row q.row t.0) (eqb-true p.node q.node t.1)

true_same : (p q : Place) → p ≡ q → same_place p q ≡ true
true_same p q e =
    and_from (eqb p.row q.row) (eqb p.node q.node) (eq-eqb _ _ (ap (λ t. t.row) e)) (eq-eqb _ _ (ap (λ t. t.node) e))

pub in_listed : (ps : List Place) (p : Place) → listed ps p ≡ true → In p ps
unfolding listed
in_listed [] p e = let z : true ≡ false = sym e in absurd (both_ways true z refl)
in_listed (q ∷ ps) p e =
    ⊎_elim (λ t. inl (same_true p q t)) (λ t. inr (in_listed ps p t)) (or_cases (same_place p q) (listed ps p) e)

pub listed_in : (ps : List Place) (p : Place) → In p ps → listed ps p ≡ true
unfolding listed
listed_in [] p h = absurd h
listed_in (q ∷ ps) p (inl e) = or_left (same_place p q) (listed ps p) (true_same p q e)
listed_in (q ∷ ps) p (inr h) = or_right (same_place p q) (listed ps p) (listed_in ps p h)

pub not_listed : (ps : List Place) (p : Place) → (In p ps → ⊥) → listed ps p ≡ false
not_listed ps p n = ⊎_elim (λ t. absurd (n (in_listed ps p t))) (λ f. f) (cases_Bool (listed ps p))

-- a listing with its repeats skipped has the same places
in_with : (ps : List Place) (p q : Place) → In q ps → In q (with_place ps p)
unfolding with_place
in_with ps p q h = go (listed ps p)
  where
    go : (b : Bool) → In q (cond b ps (ps ++ (p ∷ [])))
    go true = h
    go false = in_left q ps (p ∷ []) h

in_with_self : (ps : List Place) (p : Place) → In p (with_place ps p)
unfolding with_place
in_with_self ps p = go (listed ps p) refl
  where
    go : (b : Bool) → listed ps p ≡ b → In p (cond b ps (ps ++ (p ∷ [])))
    go true e = in_listed ps p e
    go false e = in_right p ps (p ∷ []) (inl refl)

in_seen : (seen ps : List Place) (p : Place) → In p seen → In p (distinct_from seen ps)
unfolding distinct_from
in_seen seen [] p h = h
in_seen seen (q ∷ ps) p h = in_seen (with_place seen q) ps p (in_with seen q p h)

in_distinct_from : (seen ps : List Place) (p : Place) → In p ps → In p (distinct_from seen ps)
unfolding distinct_from
in_distinct_from seen [] p h = absurd h
in_distinct_from seen (q ∷ ps) p (inl e) =
    in_seen (with_place seen q) ps p (subst (λ t. In t (with_place seen q)) (sym e) (in_with_self seen q))
in_distinct_from seen (q ∷ ps) p (inr h) = in_distinct_from (with_place seen q) ps p h

pub in_distinct : (ps : List Place) (p : Place) → In p ps → In p (distinct ps)
unfolding distinct
in_distinct ps p h = in_distinct_from [] ps p h

from_with : (ps : List Place) (p q : Place) → In q (with_place ps p) → In q ps ⊎ (q ≡ p)
unfolding with_place
from_with ps p q h = go (listed ps p) h
  where
    go : (b : Bool) → In q (cond b ps (ps ++ (p ∷ []))) → In q ps ⊎ (q ≡ p)
    go true h = inl h
    go false h = ⊎_elim (λ l. inl l) (λ r. inr (⊎_elim (λ e. e) (λ z. absurd z) r)) (in_append q ps (p ∷ []) h)

from_distinct_from : (seen ps : List Place) (p : Place) → In p (distinct_from seen ps) → In p seen ⊎ In p ps
unfolding distinct_from
from_distinct_from seen [] p h = inl h
from_distinct_from seen (q ∷ ps) p h =
    ⊎_elim (λ l. ⊎_elim (λ a. inl a) (λ e. inr (inl e)) (from_with seen q p l)) (λ r. inr (inr r)) (from_distinct_from (with_place seen q) ps p h)

pub from_distinct : (ps : List Place) (p : Place) → In p (distinct ps) → In p ps
unfolding distinct
from_distinct ps p h = ⊎_elim (λ z. absurd z) (λ i. i) (from_distinct_from [] ps p h)
