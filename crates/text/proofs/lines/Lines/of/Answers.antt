use Rattle.text.proofs.Laws.{line_cut}
use Rattle.text.proofs.lines.Lines.of.Goals as goal

pub returns-clause-cut : goal.returns-clause-cut
returns-clause-cut c = line_cut c.args.input.now
