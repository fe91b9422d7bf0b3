-- Lists with no repeats, and what skipping repeats leaves. Assumes nothing.
use Rattle.std.proofs.Common.{◌≡◌, ℕ, zero, suc, ◌+◌, ◌*◌, ◌<◌, ◌≤◌, List, [], ◌∷◌, ◌++◌, map, length, sym, refl, ap, ◌∙◌, subst, inl, inr, ⊎_elim, append_assoc, append-nil, suc-mul, arith, length-append}
use Rattle.std.specs.List.{range_with_len}
use Rattle.std.proofs.lemmas.Bool.{cases_eq, cases_Bool, both_ways, cond-true, cond-false}
use Rattle.sheet.specs.declared.place.Place.{Place}
use Rattle.sheet.specs.Places.{listed, with_place, distinct_from, distinct}
use Rattle.array.specs.Each.{each}
use Rattle.array.proofs.Members.{In, in_left, in_append, from_map, from_counting, not_listed, listed_in, in_listed}

-- no repeats
abbrev pub Once : {A : Type 0} → List A → Type 0
Once [] = Unit {0}
Once (x ∷ xs) = (In x xs → ⊥) × Once xs

-- nothing in common
abbrev pub Disjoint : {A : Type 0} → List A → List A → Type 0
Disjoint {A} xs ys = (x : A) → In x xs → In x ys → ⊥

pub once_map : {A : Type 0} (f : ℕ → A) (a n : ℕ) → ((l m : ℕ) → a ≤ l → l < m → m < a + n → f l ≡ f m → ⊥) → Once (map f (range_with_len a n))
once_map f a zero h = tt
once_map f a (suc n) h = (
  λ i. let (m, j, e) = from_map f (f a) (range_with_len (a + 1) n) i in let (p, q) = from_counting m (a + 1) n j in h a m (omega arith) (omega arith) (omega arith) e,
  once_map f (a + 1) n (λ l m p q r. h l m (omega arith) q (omega arith)),
)

with_new : (ps : List Place) (p : Place) → (In p ps → ⊥) → with_place ps p ≡ ps ++ (p ∷ [])
unfolding with_place
with_new ps p n = cond-false (listed ps p) ps (ps ++ (p ∷ [])) (not_listed ps p n)

with_old : (ps : List Place) (p : Place) → In p ps → with_place ps p ≡ ps
unfolding with_place
with_old ps p i = cond-true (listed ps p) ps (ps ++ (p ∷ [])) (listed_in ps p i)

pub distinct_append : (seen xs ys : List Place) → distinct_from seen (xs ++ ys) ≡ distinct_from (distinct_from seen xs) ys
unfolding distinct_from
distinct_append seen [] ys = refl
distinct_append seen (x ∷ xs) ys = distinct_append (with_place seen x) xs ys

pub distinct_new : (seen : List Place) (p : Place) (ps : List Place) → (In p seen → ⊥) → distinct_from seen (p ∷ ps) ≡ distinct_from (seen ++ (p ∷ [])) ps
unfolding distinct_from
distinct_new seen p ps n = ap (λ t. distinct_from t ps) (with_new seen p n)

pub distinct_old : (seen : List Place) (p : Place) (ps : List Place) → In p seen → distinct_from seen (p ∷ ps) ≡ distinct_from seen ps
unfolding distinct_from
distinct_old seen p ps i = ap (λ t. distinct_from t ps) (with_old seen p i)

pub disjoint_append : {A : Type 0} (xs ys zs : List A) → Disjoint xs zs → Disjoint ys zs → Disjoint (xs ++ ys) zs
disjoint_append xs ys zs p q x i k = ⊎_elim (λ l. p x l k) (λ r. q x r k) (in_append x xs ys i)

-- what is new and has no repeats is kept
pub distinct_once : (seen ps : List Place) → Once ps → Disjoint seen ps → distinct_from seen ps ≡ seen ++ ps
unfolding distinct_from
distinct_once seen [] o d = sym (append-nil seen)
distinct_once seen (p ∷ ps) (n, o) d =
    distinct_new seen p ps (λ i. d p i (inl refl))
    ∙ distinct_once (seen ++ (p ∷ [])) ps o
    (disjoint_append seen (p ∷ []) ps (λ x i k. d x i (inr k)) (λ x i k. ⊎_elim (λ e. n (subst (λ t. In t ps) e k)) (λ z. z) i))
    ∙ append_assoc seen (p ∷ []) ps

-- lists one after another, each of which is left as g has it
pub distinct_each : (base : List Place) (f g : ℕ → List Place) (a n : ℕ)
    → ((x : ℕ) → a ≤ x → x < a + n → (seen : List Place) → ((p : Place) → In p base → In p seen) → Disjoint seen (g x) → distinct_from seen (f x) ≡ seen ++ g x)
    → ((x y : ℕ) → a ≤ x → x < y → y < a + n → Disjoint (g x) (g y))
    → (seen : List Place) → ((p : Place) → In p base → In p seen) → ((x : ℕ) → a ≤ x → x < a + n → Disjoint seen (g x))
    → distinct_from seen (each f (range_with_len a n)) ≡ seen ++ each g (range_with_len a n)
unfolding distinct_from each
distinct_each base f g a zero one two seen has new = sym (append-nil seen)
distinct_each base f g a (suc n) one two seen has new =
    distinct_append seen (f a) (each f (range_with_len (a + 1) n))
    ∙ ap (λ t. distinct_from t (each f (range_with_len (a + 1) n))) (one a (omega arith) (omega arith) seen has (new a (omega arith) (omega arith)))
    ∙ distinct_each base f g (a + 1) n (λ x p q. one x (omega arith) (omega arith)) (λ x y p q r. two x y (omega arith) q (omega arith))
    (seen ++ g a) (λ p i. in_left p seen (g a) (has p i))
    (λ x p q. disjoint_append seen (g a) (g x) (new x (omega arith) (omega arith)) (two a x (omega arith) (omega arith) (omega arith)))
    ∙ append_assoc seen (g a) (each g (range_with_len (a + 1) n))

-- lengths
pub length_each : {A : Type 0} (g : ℕ → List A) (a n r : ℕ) → ((x : ℕ) → a ≤ x → x < a + n → length (g x) ≡ r) → length (each g (range_with_len a n)) ≡ n * r
unfolding each
length_each g a zero r h = omega arith
length_each g a (suc n) r h =
    let i = length_each g (a + 1) n r (λ x p q. h x (omega arith) (omega arith)) in
    let e = h a (omega arith) (omega arith) in
    let m : suc n * r ≡ n * r + r = suc-mul n r in
    length-append (g a) (each g (range_with_len (a + 1) n)) ∙ omega arith

pub length_each_but : {A : Type 0} (g : ℕ → List A) (y a n r : ℕ) → a ≤ y → y < a + n → length (g y) + 1 ≡ r
    → ((x : ℕ) → a ≤ x → x < a + n → (x ≡ y → ⊥) → length (g x) ≡ r) → length (each g (range_with_len a n)) + 1 ≡ n * r
unfolding each
length_each_but g y a zero r p q one h = absurd (omega arith)
length_each_but g y a (suc n) r p q one h =
    let m : suc n * r ≡ n * r + r = suc-mul n r in
    let w = length-append (g a) (each g (range_with_len (a + 1) n)) in
    ⊎_elim
    (λ e.
    let i = length_each g (a + 1) n r (λ x u v. h x (omega arith) (omega arith) (λ c. omega arith)) in
    let z : length (g a) + 1 ≡ r = subst (λ t. length (g t) + 1 ≡ r) (sym e) one in
    omega arith)
    (λ c.
    let i = length_each_but g y (a + 1) n r (omega arith) (omega arith) one (λ x u v. h x (omega arith) (omega arith)) in
    let z = h a (omega arith) (omega arith) c in
    omega arith)
    (cases_eq a y)

-- what has its repeats skipped has none
once_push : {A : Type 0} (xs : List A) (x : A) → Once xs → (In x xs → ⊥) → Once (xs ++ (x ∷ []))
once_push [] x o n = (λ z. z, tt)
once_push (y ∷ ys) x (m, o) n =
    (λ h. ⊎_elim m (λ r. ⊎_elim (λ e. n (inl (sym e))) (λ z. z) r) (in_append y ys (x ∷ []) h), once_push ys x o (λ h. n (inr h)))

once_with : (ps : List Place) (p : Place) → Once ps → Once (with_place ps p)
once_with ps p o =
    ⊎_elim (λ t. subst (λ q. Once q) (sym (with_old ps p (in_listed ps p t))) o)
    (λ f. let n : In p ps → ⊥ = λ h. both_ways (listed ps p) f (listed_in ps p h) in subst (λ q. Once q) (sym (with_new ps p n)) (once_push ps p o n)) (cases_Bool (listed ps p))

once_from : (seen ps : List Place) → Once seen → Once (distinct_from seen ps)
unfolding distinct_from
once_from seen [] o = o
once_from seen (p ∷ ps) o = once_from (with_place seen p) ps (once_with seen p o)

pub distinct_twice : (ps : List Place) → distinct (distinct ps) ≡ distinct ps
unfolding distinct
distinct_twice ps = distinct_once [] (distinct_from [] ps) (once_from [] ps tt) (λ x z. absurd z)
