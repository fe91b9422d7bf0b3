use Rattle.std.proofs.Common.{length, sym, subst}
use Rattle.row.specs.Weights.{ServeListed}
use Rattle.row.proofs.Rules.{serve_listed}
use Rattle.row.proofs.weights_into.Goals as goal

pub returns-clause-serve : goal.returns-clause-serve
returns-clause-serve g c =
    subst (ServeListed g.F.Field.ops g.F.NumberedField.size g.F.NumberedField.symbol c.args.numbers.now c.args.m) (sym c.fill_weights.ensures)
    (serve_listed g.met.F.Field.laws g.met.F.NumberedField.numbering c.args.numbers.now c.args.m (length c.args.out.now))
