use Rattle.std.proofs.Common.{◌-◌, ◌*◌, ◌/◌, ◌<◌, get_or, sym, refl, ap, ◌∙◌, subst}
use Rattle.sheet.specs.Places.{at}
use Rattle.array.specs.Sheet.{offset_places}
use Rattle.mending.proofs.Listed.{place_read}
use Rattle.mending.proofs.parity_sheet.ParitySheet.place_at.Goals as goal

pub returns : goal.returns
returns c =
    let s = c.args.self.parameters in
    let t = c.least_offset-t.result in
    let b = c.least_offset-t.ensures.1 in
    let inside : c.args.i < s.k * (s.k - t) = subst (λ t. c.args.i < s.k * (s.k - t)) (sym c.least_offset-t.ensures.0) c.requires in
    let p = at (c.args.i / (s.k - t)) c.kept_node.result in
    place_read s t c.args.i (s.k - t) refl b inside c.kept_node.result c.kept_node.ensures
    ∙ ap (λ t. get_or (offset_places s t) c.args.i p) c.least_offset-t.ensures.0
