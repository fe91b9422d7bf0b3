use Rattle.std.proofs.Common.{◌≡◌, length, get_or}
use Rattle.row.specs.Interpolation.{sum_below}
use Rattle.row.proofs.weigh.Given as goal

abbrev pub invariant-loop-weight : goal.invariant-loop-weight
invariant-loop-weight g l =
    let o = g.F.Field.ops in
    l.total ≡ sum_below o (length l.yielded) (λ i. o.product (get_or l.values i o.zero) (get_or l.weights i o.zero))
