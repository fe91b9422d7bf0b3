use Rattle.std.proofs.Common.{◌≡◌, ◌+◌, ◌-◌}
use Rattle.array.specs.Layout.{wrap}
use Rattle.array.specs.Symbols.{sum_but}
use Rattle.array.proofs.sums.by_local.Given as goal

abbrev pub invariant-loop-m : goal.invariant-loop-m
invariant-loop-m g l = l.rest ≡ sum_but g.F.Field.ops l.x (l.m - 1) (λ m. g.T.Table.held l.table l.row (wrap l.shape (l.row + m)))
