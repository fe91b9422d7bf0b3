use Rattle.std.proofs.Common.{◌≡◌, refl, ◌∙◌}
use Rattle.row.specs.Numbered.{numbered}
use Rattle.access.specs.Put.{put_entries, put_weight}
use Rattle.repair.specs.TwoClass.{two_class}
use Rattle.repair.proofs.Planning.{told_place, wrap_low}
use Rattle.repair.proofs.two_class.TwoClassCode.put_patch.Goals as goal

pub returns : goal.returns
unfolding two_class
returns g c =
    let o = g.F.Field.ops in
    let symbol = numbered o.zero g.F.NumberedField.symbol in
    let r = c.new.result.place in
    let p = c.args.self.now.parameters in
    let i = c.args.row in
    let j = c.args.column in
    let e = c.new.ensures.parameters in
    let f = c.new.ensures.row ∙ wrap_low p i c.requires.place.0 in
    let h = c.new.ensures.column ∙ wrap_low p j c.requires.place.1 in
    record {
      entries = told_place (λ x y z. put_entries x y z ≡ put_entries p i j) r.parameters p r.row i r.column j e f h refl;
      weight = λ s m l. told_place (λ x y z. put_weight o symbol x y z s m ≡ put_weight o symbol p i j s m) r.parameters p r.row i r.column j e f h refl;
    }
