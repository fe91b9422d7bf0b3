-- Loops that write or clear places one by one.
use Rattle.std.proofs.Common.{◌≡◌, ℕ, ◌+◌, ◌<◌, Bool, true, false, cond, ◌&&◌, ◌||◌, eqb, ltb, Some, None, Option, sym, refl, ap, ◌∙◌, ap₂, arith}
use mathlib.Core.Path.{fun_ext}
use Rattle.std.proofs.lemmas.Bool.{lt-ltb, ltb-true, eqb-true, cond-false, and_parts, and_from}
use Rattle.std.proofs.lemmas.Bool.Decides.{nat_tests}
use Rattle.store.specs.Meaning.{Meaning, on, written, cleared}
use Rattle.store.specs.Meaning as store
use Rattle.calls.specs.Reading.{painted, in_node, in_array, blank_below}

with_symbols : {F : Type 0} → Meaning F → (ℕ → ℕ → Option F) → Meaning F
with_symbols m f = record { rows = m.rows; nodes = m.nodes; life = m.life; symbol = f; meter = m.meter }

with_both : {F : Type 0} → Meaning F → (ℕ → ℕ → Option F) → (ℕ → ℕ → ℕ) → Meaning F
with_both m f g = record { rows = m.rows; nodes = m.nodes; life = m.life; symbol = f; meter = g }

pub on_from : {F : Type 0} (m : Meaning F) (i j : ℕ) → i < m.rows → j < m.nodes → on m i j ≡ true
on_from m i j li lj = and_from (ltb i m.rows) (ltb j m.nodes) (lt-ltb i m.rows li) (lt-ltb j m.nodes lj)

module _ {F : Type 0} (m : Meaning F) where
  pub painted_none : (inside : ℕ → ℕ → Bool) (f : ℕ → ℕ → F) → ((i j : ℕ) → inside i j ≡ false) → painted m inside f ≡ m
  unfolding painted with_symbols
  painted_none inside f h = ap (with_symbols m) (fun_ext (λ i. fun_ext (λ j. cond-false (inside i j) (Some (f i j)) (m.symbol i j) (h i j))))

  pub painted_ext : (inside : ℕ → ℕ → Bool) (f g : ℕ → ℕ → F) → ((i j : ℕ) → inside i j ≡ true → f i j ≡ g i j) → painted m inside f ≡ painted m inside g
  unfolding painted with_symbols
  painted_ext inside f g h = ap (with_symbols m) (fun_ext (λ i. fun_ext (λ j. go i j (inside i j) (h i j))))
    where
      go : (i j : ℕ) (b : Bool) → (b ≡ true → f i j ≡ g i j) → cond b (Some (f i j)) (m.symbol i j) ≡ cond b (Some (g i j)) (m.symbol i j)
      go i j true e = ap Some (e refl)
      go i j false e = refl

  -- one place more
  pub paint_more : (row node : ℕ) → row < m.rows → node < m.nodes → (inside inside' : ℕ → ℕ → Bool) (f : ℕ → ℕ → F) (m₁ m₂ : Meaning F) (s : F) → m₁ ≡ painted m inside f → s ≡ f row node → m₂ ≡ written m₁ row node s → ((i j : ℕ) → inside' i j ≡ (inside i j || store.at row node i j)) → m₂ ≡ painted m inside' f
  unfolding painted with_symbols
  paint_more row node lr ln inside inside' f m₁ m₂ s e q l h =
      l ∙ ap₂ (λ x y. written x row node y) e q
      ∙ ap (λ b. with_symbols m (λ i j. cond (b && store.at row node i j) (Some (f row node)) (cond (inside i j) (Some (f i j)) (m.symbol i j)))) (on_from m row node lr ln)
      ∙ ap (with_symbols m) (fun_ext (λ i. fun_ext (λ j. go i j (inside i j) (store.at row node i j) refl ∙ ap (λ b. cond b (Some (f i j)) (m.symbol i j)) (sym (h i j)))))
    where
      same : (i j : ℕ) → store.at row node i j ≡ true → f row node ≡ f i j
      same i j t = let p = and_parts (eqb i row) (eqb j node) t in ap₂ f (sym (eqb-true i row p.0)) (sym (eqb-true j node p.1))

      go : (i j : ℕ) (a b : Bool) → store.at row node i j ≡ b → cond b (Some (f row node)) (cond a (Some (f i j)) (m.symbol i j)) ≡ cond (a || b) (Some (f i j)) (m.symbol i j)
      go i j true true t = ap Some (same i j t)
      go i j false true t = ap Some (same i j t)
      go i j true false t = refl
      go i j false false t = refl

  -- a part of the array, and another after it
  pub painted_twice : (m₁ m₂ : Meaning F) (a b c : ℕ → ℕ → Bool) (f g : ℕ → ℕ → F) → m₁ ≡ painted m a f → m₂ ≡ painted m₁ b g → ((i j : ℕ) → b i j ≡ true → g i j ≡ f i j) → ((i j : ℕ) → c i j ≡ (a i j || b i j)) → m₂ ≡ painted m c f
  unfolding painted with_symbols
  painted_twice m₁ m₂ a b c f g e q t h = q ∙ ap (λ x. painted x b g) e ∙ ap (with_symbols m) (fun_ext (λ i. fun_ext (λ j. go i j (a i j) (b i j) (t i j) ∙ ap (λ x. cond x (Some (f i j)) (m.symbol i j)) (sym (h i j)))))
    where
      go : (i j : ℕ) (x y : Bool) → (y ≡ true → g i j ≡ f i j) → cond y (Some (g i j)) (cond x (Some (f i j)) (m.symbol i j)) ≡ cond (x || y) (Some (f i j)) (m.symbol i j)
      go i j true true t = ap Some (t refl)
      go i j false true t = ap Some (t refl)
      go i j true false t = refl
      go i j false false t = refl

pub rows_painted : {F : Type 0} (m m₁ : Meaning F) (inside : ℕ → ℕ → Bool) (f : ℕ → ℕ → F) → m₁ ≡ painted m inside f → (m₁.rows ≡ m.rows) × (m₁.nodes ≡ m.nodes)
unfolding painted
rows_painted m m₁ inside f q = (ap (λ x. x.rows) q, ap (λ x. x.nodes) q)

-- the rows of a node
pub node_start : (node i j : ℕ) → in_node 0 node i j ≡ false
unfolding in_node
node_start node i j = grind (arith, nat_tests)

pub node_more : (row node i j : ℕ) → in_node (row + 1) node i j ≡ (in_node row node i j || store.at row node i j)
unfolding in_node
node_more row node i j = grind (arith, nat_tests)

pub node_row : (rows node i j : ℕ) → in_node rows node i j ≡ true → (i < rows) × (j ≡ node)
unfolding in_node
node_row rows node i j e = let p = and_parts (ltb i rows) (eqb j node) e in (omega (arith, ltb-true i rows p.0), eqb-true j node p.1)

-- the nodes of the array
pub array_start : (rows i j : ℕ) → in_array rows 0 i j ≡ false
unfolding in_array
array_start rows i j = grind (arith, nat_tests)

pub array_more : (rows node i j : ℕ) → in_array rows (node + 1) i j ≡ (in_array rows node i j || in_node rows node i j)
unfolding in_array in_node
array_more rows node i j = grind (arith, nat_tests)

-- clearing the nodes one by one
module _ {F : Type 0} (m : Meaning F) where
  pub blank_start : blank_below 0 m ≡ m
  unfolding blank_below with_both
  blank_start = ap₂ (with_both m) (fun_ext (λ i. fun_ext (λ j. cond-false (ltb j 0) None (m.symbol i j) (none j)))) (fun_ext (λ i. fun_ext (λ j. cond-false (ltb j 0) 0 (m.meter i j) (none j))))
    where
      none : (j : ℕ) → ltb j 0 ≡ false
      none j = grind (arith, nat_tests)

  pub blank_more : (node : ℕ) → node < m.nodes → (m₁ m₂ : Meaning F) → m₁ ≡ blank_below node m → m₂ ≡ cleared m₁ node → m₂ ≡ blank_below (node + 1) m
  unfolding blank_below with_both
  blank_more node l m₁ m₂ e q =
      q ∙ ap (λ x. cleared x node) e
      ∙ ap (λ b. with_both m (λ i j. cond (b && eqb j node) None (cond (ltb j node) None (m.symbol i j))) (λ i j. cond (b && eqb j node) 0 (cond (ltb j node) 0 (m.meter i j)))) (lt-ltb node m.nodes l)
      ∙ ap₂ (with_both m) (fun_ext (λ i. fun_ext (λ j. both j None (m.symbol i j)))) (fun_ext (λ i. fun_ext (λ j. both j 0 (m.meter i j))))
    where
      or_cond : {A : Type 0} (x y : Bool) (u v : A) → cond y u (cond x u v) ≡ cond (x || y) u v
      or_cond true true u v = refl
      or_cond true false u v = refl
      or_cond false true u v = refl
      or_cond false false u v = refl

      next : (j : ℕ) → (ltb j node || eqb j node) ≡ ltb j (node + 1)
      next j = grind (arith, nat_tests)

      both : {A : Type 0} (j : ℕ) (u v : A) → cond (eqb j node) u (cond (ltb j node) u v) ≡ cond (ltb j (node + 1)) u v
      both j u v = or_cond (ltb j node) (eqb j node) u v ∙ ap (λ t. cond t u v) (next j)
