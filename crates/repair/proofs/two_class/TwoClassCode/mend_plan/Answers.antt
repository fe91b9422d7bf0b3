use Rattle.std.proofs.Common.{◌≡◌, ◌*◌, ◌<◌, refl}
use Rattle.row.specs.Numbered.{numbered}
use Rattle.code.specs.Codes.{Slotted}
use Rattle.array.specs.Sheet.{mend_entries, slot}
use Rattle.array.specs.Recovered.{restored}
use Rattle.repair.specs.TwoClass.{two_class}
use Rattle.repair.proofs.Planning.{mend_slotted, told}
use Rattle.repair.proofs.two_class.TwoClassCode.mend_plan.Goals as goal

pub returns : goal.returns
unfolding two_class
returns g c =
    let o = g.F.Field.ops in
    let symbol = numbered o.zero g.F.NumberedField.symbol in
    let q = c.new.result.weights.sheet.parameters in
    let n = c.new.result.weights.sheet.node in
    let p = c.args.self.now.parameters in
    let m = c.args.node in
    let e = c.new.ensures in
    record {
      entries = told (λ x y. mend_entries x y ≡ mend_entries p m) q p n m e.0 e.1 refl;
      ready = λ row l. told (λ x _. row < x.k) q p n m e.0 e.1 l;
      solved = λ f row l. told (λ x y. restored o symbol x f y row ≡ restored o symbol p f m row) q p n m e.0 e.1 refl;
      slots = told (λ x y. Slotted (mend_entries x y) (slot x y) (p.k * p.k)) q p n m e.0 e.1 (mend_slotted p m c.requires.node);
    }
