use Rattle.std.proofs.Common.{[], ◌∷◌, Some, ap}
use Rattle.std.proofs.lemmas.Result.{on_ok_weaker}
use Rattle.row_text.specs.Input.{glyph_of}
use Rattle.rebuilding.proofs.Writing.{one_glyph, row_written}
use Rattle.rebuilding.proofs.report.push_row.Goals as goal

pub returns : goal.returns
returns c =
    let row = c.args.row.now in
    on_ok_weaker c.writeln.result
    (row_written row.symbols.now row.last c.symbol-second.result _ _ _ _ row.follows c.symbol-second.ensures c.in_ok-push_str.ensures.bytes
    (c.in_ok-push_spaced.ensures (λ u. glyph_of u ∷ []) (λ u. ap Some (one_glyph u))))
    c.writeln.ensures.bytes
