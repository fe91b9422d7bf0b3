use Rattle.row.proofs.Rules.{rule}
use Rattle.row.proofs.row_symbol.Goals as goal

pub returns-then-m-size-clause-rule : goal.returns-then-m-size-clause-rule
returns-then-m-size-clause-rule g c = rule g.met.F.Field.laws g.met.F.NumberedField.numbering c.args.symbols.now

pub returns-clause-rule : goal.returns-clause-rule
returns-clause-rule g c = rule g.met.F.Field.laws g.met.F.NumberedField.numbering c.args.symbols.now
