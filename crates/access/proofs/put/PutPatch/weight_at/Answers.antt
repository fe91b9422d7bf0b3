use Rattle.std.proofs.Common.{arith}
use Rattle.row.specs.Numbered.{numbered}
use Rattle.access.proofs.Weights.{weight_around}
use Rattle.access.proofs.put.PutPatch.weight_at.Goals as goal

pub returns-then-place-k : goal.returns-then-place-k
returns-then-place-k g c =
    let s = c.args.self.place in
    let e = weight_around g.F.Field.ops (numbered g.F.Field.ops.zero g.F.NumberedField.symbol) s.parameters s.row s.column c.args.place.row c.args.place.node s.inside.1 (omega arith) (omega arith) (omega arith) in
    cc
