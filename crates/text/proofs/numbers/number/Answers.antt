use Rattle.text.proofs.Spelling.{spells, back}
use Rattle.text.proofs.numbers.number.Goals as goal

pub returns-clause-spells : goal.returns-clause-spells
returns-clause-spells c = spells c.args.word.now c.value.result c.value.ensures

pub returns-clause-back : goal.returns-clause-back
returns-clause-back c = back c.args.word.now c.value.result (spells c.args.word.now c.value.result c.value.ensures)
