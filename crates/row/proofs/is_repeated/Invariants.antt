use Rattle.std.proofs.Common.{◌≡◌, length}
use Rattle.row.specs.Answers.{repeated}
use Rattle.row.proofs.is_repeated.Given as goal

abbrev pub invariant-loop-n : goal.invariant-loop-n
invariant-loop-n l = repeated l.numbers ≡ repeated l.rest

abbrev pub decreases-loop-n : goal.decreases-loop-n
decreases-loop-n l = length l.rest
