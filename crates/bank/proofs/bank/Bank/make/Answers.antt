use Rattle.std.proofs.Common.{◌∙◌}
use Rattle.bank.proofs.bank.Bank.make.Goals as goal

pub returns-clause-blank : goal.returns-clause-blank
returns-clause-blank g c = c.open.ensures.opened ∙ c.make.ensures.leaves
