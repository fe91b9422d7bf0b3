use Rattle.std.proofs.Common.{◌≡◌, ℕ, ◌<◌, get_or}
use Rattle.row.specs.Numbered.{numbered}
use Rattle.row.specs.Interpolation.{basis}
use Rattle.array.specs.Layout.{skip}
use Rattle.mending.proofs.weighing.weights.Given as goal

abbrev pub invariant-loop-l : goal.invariant-loop-l
invariant-loop-l g l =
    let o = g.F.Field.ops in
    (j : ℕ) → j < l.l → numbered o.zero g.F.NumberedField.symbol (get_or l.kept-items j 0) ≡ basis o (λ i. numbered o.zero g.F.NumberedField.symbol (skip l.gap i)) l.k j l.point
