-- Sums of meters. Assumes nothing.
use Rattle.std.proofs.Common.{◌≡◌, ℕ, ◌+◌, ◌<◌, Bool, true, false, cond, ◌&&◌, eqb, ltb, List, length, refl, ap, ◌∙◌, arith}
use Rattle.std.proofs.lemmas.Bool.{lt-ltb}
use Rattle.store.specs.Meaning.{Meaning, total}
use Rattle.sheet.specs.declared.place.Place.{Place}
use Rattle.sheet.specs.Places.{at, listed, distinct}
use Rattle.calls.specs.Reading.{raised, blank_below}
use Rattle.calls.specs.Calls.{node_meters}
use Rattle.calls.proofs.Grid.{bit, total_ext, total_zero, total_cut, grid, grid_ext, grid_add, on_grid, on_grid_distinct}

pub meters_raised : {F : Type 0} (m : Meaning F) (xs : List Place) (n : ℕ) → ((i j : ℕ) → listed (distinct xs) (at i j) ≡ true → (i < m.rows) × (j < n)) → total (λ j. node_meters (raised m (distinct xs)) j) n ≡ total (λ j. node_meters m j) n + length (distinct xs)
unfolding node_meters raised grid on_grid
meters_raised m xs n h =
    grid_ext (λ i j. cond (listed (distinct xs) (at i j)) (m.meter i j + 1) (m.meter i j)) (λ i j. m.meter i j + bit (listed (distinct xs) (at i j))) m.rows n (λ i j li lj. split (listed (distinct xs) (at i j)) (m.meter i j))
    ∙ grid_add (λ i j. m.meter i j) (λ i j. bit (listed (distinct xs) (at i j))) m.rows n
    ∙ ap (λ t. total (λ j. total (λ i. m.meter i j) m.rows) n + t) (on_grid_distinct m.rows n xs h)
  where
    split : (b : Bool) (x : ℕ) → cond b (x + 1) x ≡ x + bit b
    split true x = refl
    split false x = omega arith

-- a node's meters at 0; b is the test that the node is on the store
pub meters_cleared : {F : Type 0} (m : Meaning F) (node n : ℕ) (b : Bool) → b ≡ true → node < n → total (λ j. total (λ i. cond (b && eqb j node) 0 (m.meter i j)) m.rows) n + node_meters m node ≡ total (λ j. node_meters m j) n
unfolding node_meters
meters_cleared m node n false e l = cc
meters_cleared m node n true e l =
    ap (λ t. t + total (λ i. m.meter i node) m.rows) (total_ext (λ j. total (λ i. cond (eqb j node) 0 (m.meter i j)) m.rows) (λ j. cond (eqb j node) 0 (total (λ i. m.meter i j) m.rows)) n (λ j lj. column j (eqb j node)))
    ∙ total_cut (λ j. total (λ i. m.meter i j) m.rows) node n l
  where
    column : (j : ℕ) (b : Bool) → total (λ i. cond b 0 (m.meter i j)) m.rows ≡ cond b 0 (total (λ i. m.meter i j) m.rows)
    column j true = total_zero m.rows
    column j false = refl

pub meters_blank : {F : Type 0} (m : Meaning F) (n : ℕ) → total (λ j. node_meters (blank_below n m) j) n ≡ 0
unfolding node_meters blank_below
meters_blank m n = total_ext (λ j. total (λ i. cond (ltb j n) 0 (m.meter i j)) m.rows) (λ _. 0) n (λ j lj. column j (ltb j n) (lt-ltb j n lj)) ∙ total_zero n
  where
    column : (j : ℕ) (b : Bool) → b ≡ true → total (λ i. cond b 0 (m.meter i j)) m.rows ≡ 0
    column j true e = total_zero m.rows
    column j false e = cc
