use Rattle.std.proofs.Common.{arith}
use Rattle.row.specs.Numbered.{numbered}
use Rattle.row.proofs.Numbers.{numbered_apart}
use Rattle.array.proofs.Recovery.{array_plain, around_data}
use Rattle.array.proofs.Restoring.{coded_piggyback, coded_local}
use Rattle.mending.proofs.weighing.NodeWeights.parity_symbol.Goals as goal

pub returns-then-node-first_step : goal.returns-then-node-first_step
returns-then-node-first_step g c =
    let s = c.args.self.now.sheet.parameters in
    let m = c.args.self.now.sheet.node in
    let v = g.T.Table.held c.args.table.now in
    let laws = g.met.F.Field.laws in
    let apart = numbered_apart g.F.Field.ops.zero g.F.NumberedField.size g.F.NumberedField.symbol g.F.NumberedField.number g.met.F.NumberedField.numbering in
    let a = around_data laws apart s (omega (arith, c.args.self.now.room)) v c.args.row m in
    let b = array_plain laws (numbered g.F.Field.ops.zero g.F.NumberedField.symbol) s v c.args.row m (omega arith) (omega arith) in
    cc

pub returns-then-t-shape : goal.returns-then-t-shape
returns-then-t-shape g c =
    let s = c.args.self.now.sheet.parameters in
    let m = c.args.self.now.sheet.node in
    let v = g.T.Table.held c.args.table.now in
    let laws = g.met.F.Field.laws in
    let apart = numbered_apart g.F.Field.ops.zero g.F.NumberedField.size g.F.NumberedField.symbol g.F.NumberedField.number g.met.F.NumberedField.numbering in
    let a = around_data laws apart s (omega (arith, c.args.self.now.room)) v c.args.row m in
    let b = coded_piggyback laws (numbered g.F.Field.ops.zero g.F.NumberedField.symbol) s v c.args.row m c.step_of-t.result c.step_of-t.ensures (omega arith) c.if-t-shape.true in
    cc

pub returns-else-t-shape : goal.returns-else-t-shape
returns-else-t-shape g c =
    let s = c.args.self.now.sheet.parameters in
    let v = g.T.Table.held c.args.table.now in
    let b = coded_local g.met.F.Field.laws (numbered g.F.Field.ops.zero g.F.NumberedField.symbol) s v c.args.row c.args.self.now.sheet.node c.step_of-t.result c.step_of-t.ensures (omega arith) c.if-t-shape.false in
    cc
