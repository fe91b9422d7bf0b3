use Rattle.array.proofs.Restoring.{restores}
use Rattle.row.proofs.Numbers.{numbered_apart}
use Rattle.array.proofs.recovery_stands.Goals as goal

pub returns : goal.returns
returns g c = restores g.met.F.Field.laws (numbered_apart g.F.Field.ops.zero g.F.NumberedField.size g.F.NumberedField.symbol g.F.NumberedField.number g.met.F.NumberedField.numbering)
