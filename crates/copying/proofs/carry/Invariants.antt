use Rattle.std.proofs.Common.{◌≡◌}
use Rattle.copying.specs.Copies.{drained, filled}
use Rattle.copying.proofs.carry.Given as goal

abbrev pub invariant-loop-row : goal.invariant-loop-row
invariant-loop-row g l =
    (g.P.Store.meaning l.from ≡ drained (g.P.Store.meaning l.initial.from) l.source l.row)
    × (g.Q.Store.meaning l.to ≡ filled (g.Q.Store.meaning l.initial.to) l.target l.row (g.P.Store.meaning l.initial.from) l.source)
