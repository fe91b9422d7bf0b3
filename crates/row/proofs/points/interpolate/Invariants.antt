use Rattle.std.proofs.Common.{◌≡◌, get_or}
use Rattle.row.specs.Interpolation.{sum_below, basis}
use Rattle.row.proofs.points.interpolate.Given as goal

abbrev pub invariant-loop-l : goal.invariant-loop-l
invariant-loop-l g l =
    let o = g.F.Field.ops in
    l.total ≡ sum_below o l.l (λ i. o.product (get_or l.values i o.zero) (basis o (g.P.Points.point l.points) (g.P.Points.count l.points) i l.x))
