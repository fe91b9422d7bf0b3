use Rattle.std.proofs.Common.{None, sym, ap, ◌∙◌, arith}
use Rattle.calls.specs.Reading.{blank_below}
use Rattle.calls.specs.Calls.{make_decline}
use Rattle.calls.proofs.Declines.{suited_rest}
use Rattle.calls.proofs.Histories.{begun}
use Rattle.engine.proofs.Engine.make.Goals as goal

pub returns-clause-begun : goal.returns-clause-begun
unfolding make_decline
returns-clause-begun g c =
    let m = g.S.Store.meaning c.args.store.now in
    begun g.F.Field.ops g.F.NumberedField.size (g.C.Code.code c.args.code) m (g.S.Store.meaning c.clear_nodes.new.store) (record {
      accepted = suited_rest g.F.NumberedField.size (g.C.Code.code c.args.code) m None (omega (arith, c.size.ensures, c.field_size.ensures)) (sym c.if-not-has_room.ensures);
      leaves = c.clear_nodes.ensures ∙ ap (λ n. blank_below n m) c.nodes.ensures;
    })
