-- Sums over rows and nodes, and how many places a sheet has. Assumes nothing.
use Rattle.std.proofs.Common.{◌≡◌, ℕ, zero, suc, ◌+◌, ◌*◌, ◌<◌, ◌≤◌, Bool, true, false, cond, ◌&&◌, ◌||◌, eqb, ◌⊎◌, List, [], ◌∷◌, ◌++◌, length, sym, refl, ap, ◌∙◌, inl, inr, suc-mul, arith}
use Rattle.std.proofs.Math.Bool.{and-true, and-false}
use Rattle.std.proofs.lemmas.List.{length_push}
use Rattle.std.proofs.lemmas.Bool.{eq-eqb, ne_eqb, cond-true, cond-false, cases_eq, both_ways, or_left, or_right}
use Rattle.store.specs.Meaning.{total}
use Rattle.sheet.specs.declared.place.Place.{Place}
use Rattle.sheet.specs.Places.{at, same_place, listed, with_place, distinct_from, distinct}
use Rattle.sheet.proofs.Lists.{listed_push, same_place_path, same_place_refl, listed_distinct}

-- one or zero
abbrev pub bit : Bool → ℕ
bit true = 1
bit false = 0

pub total_ext : (f g : ℕ → ℕ) (n : ℕ) → ((i : ℕ) → i < n → f i ≡ g i) → total f n ≡ total g n
total_ext f g zero h = refl
total_ext f g (suc n) h = let e = total_ext f g n (λ i lt. h i (omega arith)) in let e' : f n ≡ g n = h n (omega arith) in cc

pub total_add : (f g : ℕ → ℕ) (n : ℕ) → total (λ i. f i + g i) n ≡ total f n + total g n
total_add f g zero = refl
total_add f g (suc n) = omega (arith, total_add f g n)

pub total_le : (f g : ℕ → ℕ) (n : ℕ) → ((i : ℕ) → i < n → f i ≤ g i) → total f n ≤ total g n
total_le f g zero h = omega arith
total_le f g (suc n) h = let e : f n ≤ g n = h n (omega arith) in omega (arith, total_le f g n (λ i lt. h i (omega arith)))

pub total_zero : (n : ℕ) → total (λ _. 0) n ≡ 0
total_zero zero = refl
total_zero (suc n) = omega (arith, total_zero n)

pub total_same : (x n : ℕ) → total (λ _. x) n ≡ n * x
total_same x zero = omega arith
total_same x (suc n) = omega (arith, total_same x n, suc-mul n x)

-- a sum with one term left out
pub total_cut : (f : ℕ → ℕ) (a n : ℕ) → a < n → total (λ i. cond (eqb i a) 0 (f i)) n + f a ≡ total f n
total_cut f a zero lt = absurd (omega arith)
total_cut f a (suc n) lt = go (cases_eq n a) (total_cut f a n)
  where
    go : (n ≡ a) ⊎ (n ≡ a → ⊥) → (a < n → total (λ i. cond (eqb i a) 0 (f i)) n + f a ≡ total f n) → (total (λ i. cond (eqb i a) 0 (f i)) n + cond (eqb n a) 0 (f n)) + f a ≡ total f n + f n
    go (inl e) rest =
        let same : total (λ i. cond (eqb i a) 0 (f i)) n ≡ total f n = total_ext (λ i. cond (eqb i a) 0 (f i)) f n (λ i l. cond-false (eqb i a) 0 (f i) (ne_eqb i a (λ q. omega arith))) in
        let here : cond (eqb n a) 0 (f n) ≡ 0 = cond-true (eqb n a) 0 (f n) (eq-eqb n a e) in
        let at : f n ≡ f a = ap f e in
        omega arith
    go (inr ne) rest =
        let here : cond (eqb n a) 0 (f n) ≡ f n = cond-false (eqb n a) 0 (f n) (ne_eqb n a ne) in
        let more : total (λ i. cond (eqb i a) 0 (f i)) n + f a ≡ total f n = rest (omega arith) in
        omega arith

pub total_one : (a n : ℕ) → a < n → total (λ i. bit (eqb i a)) n ≡ 1
total_one a zero lt = absurd (omega arith)
total_one a (suc n) lt = go (cases_eq n a) (total_one a n)
  where
    go : (n ≡ a) ⊎ (n ≡ a → ⊥) → (a < n → total (λ i. bit (eqb i a)) n ≡ 1) → total (λ i. bit (eqb i a)) n + bit (eqb n a) ≡ 1
    go (inl e) rest =
        let none : total (λ i. bit (eqb i a)) n ≡ total (λ _. 0) n = total_ext (λ i. bit (eqb i a)) (λ _. 0) n (λ i l. ap bit (ne_eqb i a (λ q. omega arith))) in
        let here : bit (eqb n a) ≡ 1 = ap bit (eq-eqb n a e) in
        omega (arith, total_zero n)
    go (inr ne) rest =
        let here : bit (eqb n a) ≡ 0 = ap bit (ne_eqb n a ne) in
        omega (arith, rest (omega arith))

-- sums over rows and nodes
unfoldable pub grid : (ℕ → ℕ → ℕ) → ℕ → ℕ → ℕ
grid f rows nodes = total (λ j. total (λ i. f i j) rows) nodes

pub grid_ext : (f g : ℕ → ℕ → ℕ) (rows nodes : ℕ) → ((i j : ℕ) → i < rows → j < nodes → f i j ≡ g i j) → grid f rows nodes ≡ grid g rows nodes
unfolding grid
grid_ext f g rows nodes h = total_ext (λ j. total (λ i. f i j) rows) (λ j. total (λ i. g i j) rows) nodes (λ j lj. total_ext (λ i. f i j) (λ i. g i j) rows (λ i li. h i j li lj))

pub grid_add : (f g : ℕ → ℕ → ℕ) (rows nodes : ℕ) → grid (λ i j. f i j + g i j) rows nodes ≡ grid f rows nodes + grid g rows nodes
unfolding grid
grid_add f g rows nodes =
    total_ext (λ j. total (λ i. f i j + g i j) rows) (λ j. total (λ i. f i j) rows + total (λ i. g i j) rows) nodes (λ j lj. total_add (λ i. f i j) (λ i. g i j) rows)
    ∙ total_add (λ j. total (λ i. f i j) rows) (λ j. total (λ i. g i j) rows) nodes

grid_one : (a b rows nodes : ℕ) → a < rows → b < nodes → grid (λ i j. bit (same_place (at i j) (at a b))) rows nodes ≡ 1
unfolding grid
grid_one a b rows nodes la lb =
    total_ext (λ j. total (λ i. bit (eqb i a && eqb j b)) rows) (λ j. bit (eqb j b)) nodes (λ j lj. column j (eqb j b)) ∙ total_one b nodes lb
  where
    column : (j : ℕ) (t : Bool) → total (λ i. bit (eqb i a && t)) rows ≡ bit t
    column j true = total_ext (λ i. bit (eqb i a && true)) (λ i. bit (eqb i a)) rows (λ i li. ap bit (and-true (eqb i a))) ∙ total_one a rows la
    column j false = total_ext (λ i. bit (eqb i a && false)) (λ _. 0) rows (λ i li. ap bit (and-false (eqb i a))) ∙ total_zero rows

-- how many places of the grid a list has
unfoldable pub on_grid : List Place → ℕ → ℕ → ℕ
on_grid ps rows nodes = grid (λ i j. bit (listed ps (at i j))) rows nodes

pub Inside : ℕ → ℕ → List Place → Type 0
Inside rows nodes ps = (i j : ℕ) → listed ps (at i j) ≡ true → (i < rows) × (j < nodes)

disjoint : (a b : Bool) → (a ≡ true → b ≡ true → ⊥) → bit (a || (b || false)) ≡ bit a + bit b
disjoint true true no' = absurd (no' refl refl)
disjoint true false no' = refl
disjoint false true no' = refl
disjoint false false no' = refl

on_grid_with : (rows nodes : ℕ) (seen : List Place) (p : Place) → p.row < rows → p.node < nodes → on_grid seen rows nodes ≡ length seen → on_grid (with_place seen p) rows nodes ≡ length (with_place seen p)
unfolding on_grid with_place
on_grid_with rows nodes seen p lr ln e = go (listed seen p) refl
  where
    go : (b : Bool) → listed seen p ≡ b → grid (λ i j. bit (listed (cond b seen (seen ++ (p ∷ []))) (at i j))) rows nodes ≡ length (cond b seen (seen ++ (p ∷ [])))
    go true h = e
    go false h =
        grid_ext (λ i j. bit (listed (seen ++ (p ∷ [])) (at i j))) (λ i j. bit (listed seen (at i j)) + bit (same_place (at i j) p)) rows nodes
        (λ i j li lj. ap bit (listed_push seen p (at i j)) ∙ disjoint (listed seen (at i j)) (same_place (at i j) p) (λ l s. both_ways (listed seen p) h (ap (listed seen) (sym (same_place_path (at i j) p s)) ∙ l)))
        ∙ grid_add (λ i j. bit (listed seen (at i j))) (λ i j. bit (same_place (at i j) p)) rows nodes
        ∙ omega (arith, e, grid_one p.row p.node rows nodes lr ln, length_push seen p)

on_grid_from : (rows nodes : ℕ) (seen xs : List Place) → ((i j : ℕ) → listed xs (at i j) ≡ true → (i < rows) × (j < nodes)) → on_grid seen rows nodes ≡ length seen → on_grid (distinct_from seen xs) rows nodes ≡ length (distinct_from seen xs)
unfolding distinct_from listed
on_grid_from rows nodes seen [] h e = e
on_grid_from rows nodes seen (x ∷ xs) h e =
    let here = h x.row x.node (or_left (same_place x x) (listed xs x) (same_place_refl x)) in
    on_grid_from rows nodes (with_place seen x) xs (λ i j l. h i j (or_right (same_place (at i j) x) (listed xs (at i j)) l)) (on_grid_with rows nodes seen x here.0 here.1 e)

-- a sheet has each of its places once
pub on_grid_distinct : (rows nodes : ℕ) (xs : List Place) → ((i j : ℕ) → listed (distinct xs) (at i j) ≡ true → (i < rows) × (j < nodes)) → on_grid (distinct xs) rows nodes ≡ length (distinct xs)
unfolding distinct on_grid listed grid
on_grid_distinct rows nodes xs h = on_grid_from rows nodes [] xs (λ i j l. h i j (listed_distinct xs (at i j) ∙ l)) (empty nodes)
  where
    empty : (n : ℕ) → total (λ j. total (λ i. 0) rows) n ≡ 0
    empty n = total_ext (λ j. total (λ i. 0) rows) (λ _. 0) n (λ j lj. total_zero rows) ∙ total_zero n
