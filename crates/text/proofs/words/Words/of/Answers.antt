use Rattle.std.proofs.Common.{arith}
use Rattle.text.proofs.Cuts.{parts_long}
use Rattle.text.proofs.Laws.{word_cut}
use Rattle.text.proofs.words.Words.of.Goals as goal

pub invariant_of-result : goal.invariant_of-result
invariant_of-result c = record { fits = omega (arith, parts_long 9 c.args.line.now) }

pub returns-clause-cut : goal.returns-clause-cut
returns-clause-cut c = word_cut c.args.line.now
