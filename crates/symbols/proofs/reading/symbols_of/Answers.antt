use Rattle.std.proofs.Common.{Err, vec_items, ap, ◌∙◌}
use Rattle.std.proofs.lemmas.Result.{err_from_is_err_and}
use Rattle.text.specs.Words.{left, place}
use Rattle.symbols.proofs.Symbols.{stopped}
use Rattle.symbols.proofs.reading.symbols_of.Goals as goal

pub returns-in_err-symbol : goal.returns-in_err-symbol
returns-in_err-symbol g c =
    let p = err_from_is_err_and c.from_residual.result c.from_residual.ensures.1 in
    stopped g.S.Notation.written (left c.args.words) (left c.loop-word.word-iterator) (left c.next.new.self) (place c.in-Some.word) (vec_items c.loop-word.out) c.loop-word.invariant c.in-Some.ensures.steps
    c.from_residual.result c.read_symbol.result c.in_err-symbol.field-0.0 c.read_symbol.ensures c.in_err-symbol.ensures.value (p.1 ∙ ap Err p.2)
