use Rattle.row.proofs.Numbers.{numbered_apart}
use Rattle.access.proofs.Reached.{fetches}
use Rattle.access.proofs.fetch_stands.Goals as goal

pub returns : goal.returns
returns g c = fetches g.met.F.Field.laws (numbered_apart g.F.Field.ops.zero g.F.NumberedField.size g.F.NumberedField.symbol g.F.NumberedField.number g.met.F.NumberedField.numbering)
