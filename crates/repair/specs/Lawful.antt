-- The two-class code keeps the laws of a code. Assumes nothing.
use Rattle.std.specs.Prelude.{◌≡◌, ℕ, ◌+◌, ◌<◌, ◌≤◌, true, nat_lt}
use Rattle.std.proofs.Math.Path.{sym}
use Rattle.std.proofs.Common.{◌∙◌, arith}
use Rattle.std.proofs.lemmas.Bool.{lt-ltb, cond-true}
use Rattle.field.specs.Laws.{Operations}
use Rattle.sheet.specs.Places.{at, listed, places_of, sheet_of}
use Rattle.sheet.proofs.Lists.{listed_distinct}
use Rattle.code.specs.Codes.{CodeLaws}
use Rattle.array.specs.declared.parameters.Parameters.{Parameters}
use Rattle.array.specs.Symbols.{array}
use Rattle.array.specs.Sheet.{mend_entries, node_sheet}
use Rattle.array.specs.Theorems.{Restores, AllStand}
use Rattle.access.specs.Theorems.{Fetches, Puts}
use Rattle.repair.specs.TwoClass.{two_class}

module _ {F : Type 0} (o : Operations F) (symbol : ℕ → F) (size : ℕ) (restores : Restores o symbol size) (stand : AllStand) (fetches : Fetches o symbol size) (puts : Puts o symbol) (p : Parameters) (large : p.k + p.a ≤ size) where
  -- a place of a listing is on its sheet
  on_sheet : (m i j : ℕ) → listed (places_of (mend_entries p m)) (at i j) ≡ true → listed (node_sheet p m) (at i j) ≡ true
  unfolding node_sheet sheet_of
  on_sheet m i j l = listed_distinct (places_of (mend_entries p m)) (at i j) ∙ l

  off_sheet : (m i j : ℕ) → listed (node_sheet p m) (at i j) ≡ true → listed (places_of (mend_entries p m)) (at i j) ≡ true
  unfolding node_sheet sheet_of
  off_sheet m i j l = sym (listed_distinct (places_of (mend_entries p m)) (at i j)) ∙ l

  systematic : (d : ℕ → ℕ → F) (i j : ℕ) → j < p.k → array o symbol p d i j ≡ d i j
  unfolding array
  systematic d i j l = cond-true (nat_lt j p.k) (d i j) _ (lt-ltb j p.k l)

  pub lawful : CodeLaws o (two_class o symbol p)
  unfolding two_class
  lawful = record {
    some_row = omega (arith, p.wide.0);
    some_column = omega (arith, p.wide.0);
    wide = omega arith;
    systematic = λ d i j li lj. systematic d i j lj;
    mends = λ blank node row ln lr.
        let s = stand p node ln in
        record {
          inside = λ i j l. s.inside i j (on_sheet node i j l);
          some = (s.some.0, s.some.1, off_sheet node s.some.0 s.some.1 s.some.2);
          right = λ d f e. restores p large d f node ln (λ i j l. e i j (off_sheet node i j l)) row lr;
        };
    mends_apart = λ blank node i ln l. (stand p node ln).apart i (on_sheet node i node l);
    fetches = λ blank row column lr lc.
        let t = fetches p large row column lr lc in
        record { inside = t.inside; some = t.some; right = λ d f e. t.right d f e ∙ sym (systematic d row column lc) };
    puts = λ row column lr lc.
        let t = puts p row column lr lc in
        record { inside = t.inside; once = t.once; first = t.first; right = t.right };
  }
