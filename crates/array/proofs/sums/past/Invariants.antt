use Rattle.std.proofs.Common.{◌≡◌, ◌+◌, ◌-◌}
use Rattle.array.specs.Layout.{wrap}
use Rattle.array.specs.Symbols.{sum_to}
use Rattle.array.proofs.sums.past.Given as goal

abbrev pub invariant-loop-m : goal.invariant-loop-m
invariant-loop-m g l = l.total ≡ sum_to g.F.Field.ops (l.m - 1) (λ m. g.T.Table.held l.table l.row (wrap l.shape (l.row + m)))
