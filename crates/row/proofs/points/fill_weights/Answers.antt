use Rattle.std.proofs.Common.{arith}
use Rattle.std.proofs.lemmas.List.FromFn.{fill_by_all}
use Rattle.row.proofs.points.fill_weights.Goals as goal

pub returns : goal.returns
returns g c = fill_by_all _ c.loop-l.out _ g.F.Field.ops.zero c.loop-l.auto.out (λ i h. c.loop-l.invariant i (omega arith))
