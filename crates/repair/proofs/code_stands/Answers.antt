use Rattle.row.specs.Numbered.{numbered}
use Rattle.row.proofs.Numbers.{numbered_apart}
use Rattle.array.proofs.Restoring.{restores}
use Rattle.array.proofs.Standing.{stands}
use Rattle.access.proofs.Reached.{fetches}
use Rattle.access.proofs.Replacing.{puts}
use Rattle.repair.specs.Lawful.{lawful}
use Rattle.repair.proofs.code_stands.Goals as goal

pub returns : goal.returns
returns g c =
    let o = g.F.Field.ops in
    let symbol = numbered o.zero g.F.NumberedField.symbol in
    let size = g.F.NumberedField.size in
    let apart = numbered_apart o.zero size g.F.NumberedField.symbol g.F.NumberedField.number g.met.F.NumberedField.numbering in
    λ p large. lawful o symbol size (restores g.met.F.Field.laws apart) stands (fetches g.met.F.Field.laws apart) (puts g.met.F.Field.laws symbol) p large
