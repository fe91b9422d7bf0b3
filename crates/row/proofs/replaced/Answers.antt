use Rattle.row.proofs.Rules.{replacing}
use Rattle.row.proofs.replaced.Goals as goal

pub returns-clause-replaces : goal.returns-clause-replaces
returns-clause-replaces g c = replacing g.met.F.Field.laws g.met.F.NumberedField.numbering c.args.weight c.args.old c.args.new c.args.before c.sum.result (cc)
