use Rattle.std.proofs.Common.{rules}
use Rattle.symbols.specs.Spelling.{reads_number}
use Rattle.symbols.proofs.notation.ByteNotation.read_symbol.Goals as goal

pub returns : goal.returns
returns c = let read = reads_number c.args.word.now c.in_ok-number.field-0 c.symbol.result c.in_ok-number.ensures.spells c.symbol.ensures in search rules
