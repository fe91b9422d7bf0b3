use Rattle.std.proofs.Common.{length}
use Rattle.row.specs.Numbered.{numbered}
use Rattle.calls.specs.History.{asked}
use Rattle.repair.proofs.Served.{sheets, sized_step}
use Rattle.repair.proofs.serve.Goals as goal

pub returns : goal.returns
returns g c =
    let o = g.F.Field.ops in
    let symbol = numbered o.zero g.F.NumberedField.symbol in
    let p = c.args.engine.now.code.parameters in
    let t = c.serve.ensures in
    record {
      step = t.step;
      history = t.history;
      sized = sized_step o symbol p g.F.NumberedField.size (asked c.args.call) (length c.args.memory.now) c.serve.result (g.S.Store.meaning c.args.store.now) (g.S.Store.meaning c.serve.new.store) t.step;
      sheets = sheets o symbol p;
      memory = t.memory;
    }
