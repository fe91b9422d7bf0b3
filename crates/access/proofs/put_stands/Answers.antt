use Rattle.row.specs.Numbered.{numbered}
use Rattle.access.proofs.Replacing.{puts}
use Rattle.access.proofs.put_stands.Goals as goal

pub returns : goal.returns
returns g c = puts g.met.F.Field.laws (numbered g.F.Field.ops.zero g.F.NumberedField.symbol)
