-- The read sheets of the two-class code, and what a mend counts. Assumes nothing.
use Rattle.std.proofs.Common.{◌≡◌, ℕ, length, Ok, Result, refl, ap, ◌∙◌, inl, inr}
use Rattle.field.specs.Laws.{Operations}
use Rattle.store.specs.Meaning.{Meaning}
use Rattle.code.specs.Codes.{CodeMeaning}
use Rattle.array.specs.declared.parameters.Parameters.{Parameters}
use Rattle.array.specs.Sheet.{node_sheet}
use Rattle.array.proofs.Size.{sized}
use Rattle.calls.specs.declared.call.CallName.TheVariants.{Mend}
use Rattle.calls.specs.declared.call.CallFault.{CallFault}
use Rattle.calls.specs.declared.call.Answer.{Answer}
use Rattle.calls.specs.declared.call.Answer.TheVariants.{Counted}
use Rattle.calls.specs.Calls.{MendDone, mend_decline, mend_recipe, mend_sheet, mended}
use Rattle.calls.specs.History.{Ask, set, put, fetch, lose, refresh, mend, Step}
use Rattle.calls.proofs.Outcomes.{Outcome, sheet_outcome}
use Rattle.repair.specs.TwoClass.{two_class}
use Rattle.repair.specs.Promise.{Sized, Sheets}

-- an accepted mend answers the length of its sheet
mend_counted : {F : Type 0} (o : Operations F) (size : ℕ) (code : CodeMeaning F) (node n : ℕ) (r : Result (Answer F) CallFault) (m m' : Meaning F)
    → Step o size code (mend node) n r m m' → (a : Answer F) → r ≡ Ok a → a ≡ Counted (length (mend_sheet code m node))
unfolding Step MendDone
mend_counted {F} o size code node n r m m' s a q =
    go (sheet_outcome Mend (mend_decline size code m node n) (mend_recipe code m node).entries (length (mend_sheet code m node)) Counted m (mended o.zero code m node) s.0 r m' s.1 s.2)
  where
    go : Outcome (mend_decline size code m node n) (mend_recipe code m node).entries (Counted (length (mend_sheet code m node))) m (mended o.zero code m node) r m' → a ≡ Counted (length (mend_sheet code m node))
    go (inl t) = let e = t.answer in cc
    go (inr t) = let e = t.answer in cc

module _ {F : Type 0} (o : Operations F) (symbol : ℕ → F) (p : Parameters) where
  same_sheet : (m : Meaning F) (node : ℕ) → mend_sheet (two_class o symbol p) m node ≡ node_sheet p node
  unfolding mend_sheet mend_recipe two_class node_sheet
  same_sheet m node = refl

  pub sheets : Sheets o symbol p
  sheets = record { same = same_sheet; size = λ m node l b. ap length (same_sheet m node) ∙ sized p b node l }

  pub sized_step : (size : ℕ) (a : Ask F) (n : ℕ) (r : Result (Answer F) CallFault) (m m' : Meaning F) → Step o size (two_class o symbol p) a n r m m' → Sized p a r
  sized_step size (set xs) n r m m' s = tt
  sized_step size (put row column x) n r m m' s = tt
  sized_step size (fetch row column) n r m m' s = tt
  sized_step size (lose node) n r m m' s = tt
  sized_step size (refresh node) n r m m' s = tt
  sized_step size (mend node) n r m m' s = λ l b a q. mend_counted o size (two_class o symbol p) node n r m m' s a q ∙ ap Counted (sheets.size m node l b)
