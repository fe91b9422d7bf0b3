use Rattle.std.proofs.Common.{◌+◌, arith}
use Rattle.calls.specs.Reading.{in_node}
use Rattle.actions.proofs.Painting.{paint_more, node_more}
use Rattle.actions.proofs.writing.write_node.Goals as goal

pub loop-row-preserved : goal.loop-row-preserved
loop-row-preserved g c = paint_more (g.S.Store.meaning c.args.store.now) c.loop-row.row c.args.node (omega (arith, c.requires.room.0)) c.requires.room.1 (in_node c.loop-row.row c.args.node) (in_node (c.loop-row.row + 1) c.args.node) (λ i _. g.V.Solver.solved c.args.solver.now (g.T.Table.held c.args.table.now) i) (g.S.Store.meaning c.loop-row.store) (g.S.Store.meaning c.write-written.new.self) c.solve.result c.loop-row.invariant c.solve.ensures c.write-written.ensures.leaves (node_more c.loop-row.row c.args.node)
