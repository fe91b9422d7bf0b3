use Rattle.std.proofs.Common.{◌≡◌, ℕ, ◌<◌, cond, ltb, get_or}
use Rattle.row.specs.Interpolation.{basis}
use Rattle.row.specs.RowRule.{stands}
use Rattle.row.proofs.points.fill_weights.Given as goal

abbrev pub invariant-loop-l : goal.invariant-loop-l
invariant-loop-l g l =
    let o = g.F.Field.ops in
    (i : ℕ) → i < l.l → get_or l.out i o.zero ≡ cond (ltb i (g.P.Points.count l.points)) (basis o (g.P.Points.point l.points) (g.P.Points.count l.points) i (stands o g.F.NumberedField.symbol l.m)) o.zero
