use Rattle.std.proofs.Common.{◌≡◌}
use Rattle.row.specs.Numbered.{numbered}
use Rattle.row.specs.Interpolation.{sum_below}
use Rattle.array.specs.Layout.{skip}
use Rattle.mending.specs.Weights.{weight_at}
use Rattle.mending.proofs.weighing.NodeWeights.weigh.Given as goal

abbrev pub invariant-loop-l : goal.invariant-loop-l
invariant-loop-l g l =
    let o = g.F.Field.ops in
    let s = l.self.sheet in
    l.total ≡ sum_below o l.l (λ j. o.product (g.T.Table.held l.table l.row (skip l.self.gap j)) (weight_at o (numbered o.zero g.F.NumberedField.symbol) s.parameters.k l.self.gap s.node j))
