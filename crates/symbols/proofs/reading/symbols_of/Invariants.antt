use Rattle.std.proofs.Common.{◌≡◌, ◌++◌, map, vec_items}
use Rattle.text.specs.Words.{left, texts}
use Rattle.symbols.proofs.reading.symbols_of.Given as goal

-- the words so far write the symbols so far
abbrev pub invariant-loop-word : goal.invariant-loop-word
invariant-loop-word g l = texts (left l.words) ≡ map g.S.Notation.written (vec_items l.out) ++ texts (left l.word-iterator)
