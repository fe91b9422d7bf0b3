use Rattle.std.proofs.Common.{◌≡◌, ◌*◌, refl, ◌∙◌}
use Rattle.row.specs.Numbered.{numbered}
use Rattle.row.proofs.Numbers.{numbered_apart}
use Rattle.code.specs.Codes.{Slotted}
use Rattle.access.specs.Fetch.{fetch_entries, fetch_symbol, fetch_slot}
use Rattle.access.proofs.Reached.{fetches}
use Rattle.repair.specs.TwoClass.{two_class}
use Rattle.repair.proofs.Planning.{told_place, wrap_low}
use Rattle.repair.proofs.two_class.TwoClassCode.fetch_plan.Goals as goal

pub returns : goal.returns
unfolding two_class
returns g c =
    let o = g.F.Field.ops in
    let symbol = numbered o.zero g.F.NumberedField.symbol in
    let r = c.new.result.place in
    let p = c.args.self.now.parameters in
    let i = c.args.row in
    let j = c.args.column in
    let e = c.new.ensures.parameters in
    let f = c.new.ensures.row ∙ wrap_low p i c.requires.place.0 in
    let h = c.new.ensures.column ∙ wrap_low p j c.requires.place.1 in
    let apart = numbered_apart o.zero g.F.NumberedField.size g.F.NumberedField.symbol g.F.NumberedField.number g.met.F.NumberedField.numbering in
    record {
      entries = told_place (λ x y z. fetch_entries x y z ≡ fetch_entries p i j) r.parameters p r.row i r.column j e f h refl;
      ready = tt;
      solved = λ v. told_place (λ x y z. fetch_symbol o symbol x v y z ≡ fetch_symbol o symbol p v i j) r.parameters p r.row i r.column j e f h refl;
      slots = told_place (λ x y z. Slotted (fetch_entries x y z) (fetch_slot x y z) (p.k * p.k)) r.parameters p r.row i r.column j e f h (fetches g.met.F.Field.laws apart p c.requires.fine i j c.requires.place.0 c.requires.place.1).slots;
    }
