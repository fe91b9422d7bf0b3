use Rattle.std.proofs.Common.{◌≡◌, length, sym, ◌∙◌, subst}
use Rattle.row.specs.RowRule.{stands}
use Rattle.row.specs.Weights.{data_weights, ServeData}
use Rattle.row.proofs.Rules.{all_counted, serve_data}
use Rattle.row.proofs.data_weights_into.Goals as goal

pub returns : goal.returns
returns g c =
    let o = g.F.Field.ops in
    let symbol = g.F.NumberedField.symbol in
    let k = length c.args.out.now in
    let e : c.fill_weights.new.out ≡ data_weights o symbol k c.args.m
    = c.fill_weights.ensures ∙ all_counted g.met.F.Field.laws (stands o symbol) k (stands o symbol c.args.m) in
    record {
      weights = e;
      serve = subst (ServeData o symbol c.args.m) (sym e) (serve_data g.met.F.Field.laws symbol k c.args.m);
    }
