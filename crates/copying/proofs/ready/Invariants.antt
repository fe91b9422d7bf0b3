use Rattle.std.proofs.Common.{◌≡◌, None}
use Rattle.copying.specs.Copies.{copy_fault}
use Rattle.copying.proofs.ready.Given as goal

abbrev pub invariant-loop-row : goal.invariant-loop-row
invariant-loop-row g l = copy_fault (g.P.Store.meaning l.initial.from) l.source (g.Q.Store.meaning l.initial.to) l.target l.row ≡ None
