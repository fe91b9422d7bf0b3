use Rattle.std.proofs.Common.{◌+◌, sym, ap, ◌∙◌, arith}
use Rattle.calls.specs.Reading.{painted, in_array, in_node}
use Rattle.calls.proofs.Declines.{fits_parts}
use Rattle.actions.proofs.Painting.{painted_twice, rows_painted, array_more, node_row}
use Rattle.actions.proofs.writing.write_array.Goals as goal

pub write_node-requires : goal.write_node-requires
write_node-requires g c =
    let p = fits_parts (g.C.Code.code c.args.code.now) (g.S.Store.meaning c.args.store.now) c.requires.room in
    let s = rows_painted (g.S.Store.meaning c.args.store.now) (g.S.Store.meaning c.loop-node.store) (in_array (g.C.Code.code c.args.code.now).rows c.loop-node.node) ((g.C.Code.code c.args.code.now).symbol (g.T.Table.held c.args.table.now)) c.loop-node.invariant in
    record {
      room = (omega (arith, p.0, s.0, c.rows-rows.ensures), omega (arith, p.1, s.1, c.nodes-node-end.ensures, c.loop-node-test.true));
      ready = λ row l. c.column-column.ensures.ready row (omega (arith, l, c.rows-rows.ensures));
    }

pub loop-node-preserved : goal.loop-node-preserved
loop-node-preserved g c =
    let k = (g.C.Code.code c.args.code.now) in
    let d = g.T.Table.held c.args.table.now in
    let node = c.loop-node.node in
    let m₁ = g.S.Store.meaning c.loop-node.store in
    painted_twice (g.S.Store.meaning c.args.store.now) (g.S.Store.meaning c.loop-node.store) (g.S.Store.meaning c.write_node.new.store) (in_array (g.C.Code.code c.args.code.now).rows c.loop-node.node) (in_node (g.C.Code.code c.args.code.now).rows c.loop-node.node) (in_array (g.C.Code.code c.args.code.now).rows (c.loop-node.node + 1)) ((g.C.Code.code c.args.code.now).symbol (g.T.Table.held c.args.table.now)) (λ i _. g.C.Column.Solver.solved c.column-column.result (g.T.Table.held c.args.table.now) i) c.loop-node.invariant
    (c.write_node.ensures ∙ ap (λ n. painted (g.S.Store.meaning c.loop-node.store) (in_node n c.loop-node.node) (λ i _. g.C.Column.Solver.solved c.column-column.result (g.T.Table.held c.args.table.now) i)) c.rows-rows.ensures)
    (λ i j t. let q = node_row (g.C.Code.code c.args.code.now).rows c.loop-node.node i j t in c.column-column.ensures.solved (g.T.Table.held c.args.table.now) i q.0 ∙ ap ((g.C.Code.code c.args.code.now).symbol (g.T.Table.held c.args.table.now) i) (sym q.1))
    (array_more (g.C.Code.code c.args.code.now).rows c.loop-node.node)
