use Rattle.std.proofs.Common.{◌≡◌}
use Rattle.calls.specs.Reading.{painted, in_node}
use Rattle.actions.proofs.writing.write_node.Given as goal

abbrev pub invariant-loop-row : goal.invariant-loop-row
invariant-loop-row g l = g.S.Store.meaning l.store ≡ painted (g.S.Store.meaning l.initial.store) (in_node l.row l.node) (λ i _. g.V.Solver.solved l.solver (g.T.Table.held l.table) i)
