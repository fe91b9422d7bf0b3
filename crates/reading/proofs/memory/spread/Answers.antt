use Rattle.std.proofs.Common.{map, sym, ◌∙◌, arith}
use Rattle.std.proofs.lemmas.List.{length-map, ext_get_or, get_or-map}
use Rattle.reading.specs.Tables.{spread_over}
use Rattle.reading.proofs.memory.spread.Goals as goal

pub returns : goal.returns
unfolding spread_over
returns g c =
    let b = c.args.each in
    let whole = c.loop-record.auto.memory in
    ext_get_or b c.loop-record.memory (map (λ _. b) c.args.memory.now) (whole ∙ sym (length-map c.args.memory.now (λ _. b))) (λ n l. c.loop-record.invariant n (omega arith) ∙ sym (get_or-map (λ _. b) c.args.memory.now n b b (omega arith)))
