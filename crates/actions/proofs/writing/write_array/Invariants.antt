use Rattle.std.proofs.Common.{◌≡◌}
use Rattle.calls.specs.Reading.{painted, in_array}
use Rattle.actions.proofs.writing.write_array.Given as goal

abbrev pub invariant-loop-node : goal.invariant-loop-node
invariant-loop-node g l = g.S.Store.meaning l.store ≡ painted (g.S.Store.meaning l.initial.store) (in_array (g.C.Code.code l.code).rows l.node) ((g.C.Code.code l.code).symbol (g.T.Table.held l.table))
