use Rattle.std.proofs.Common.{◌≡◌}
use Rattle.row.specs.Interpolation.{others}
use Rattle.row.proofs.points.others.Given as goal

abbrev pub invariant-loop-m : goal.invariant-loop-m
invariant-loop-m g l = l.result ≡ others g.F.Field.ops (g.P.Points.point l.points) l.m l.skipped l.x
