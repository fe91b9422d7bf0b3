use Rattle.std.proofs.Common.{◌≡◌}
use Rattle.row.specs.Numbered.{numbered}
use Rattle.row.specs.Interpolation.{sum_below, basis}
use Rattle.array.specs.Layout.{skip}
use Rattle.array.proofs.sums.around.Given as goal

abbrev pub invariant-loop-l : goal.invariant-loop-l
invariant-loop-l g l =
    let o = g.F.Field.ops in
    l.total ≡ sum_below o l.l (λ j. o.product (g.T.Table.held l.table l.row (skip l.gap j)) (basis o (λ i. numbered g.F.Field.ops.zero g.F.NumberedField.symbol (skip l.gap i)) l.shape.k j l.point))
