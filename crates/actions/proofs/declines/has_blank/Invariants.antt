use Rattle.std.proofs.Common.{◌≡◌, false}
use Rattle.calls.specs.Calls.{any_blank}
use Rattle.actions.proofs.declines.has_blank.Given as goal

abbrev pub invariant-loop-row : goal.invariant-loop-row
invariant-loop-row g l = any_blank (g.S.Store.meaning l.store) l.node l.row ≡ false
