use Rattle.std.proofs.Common.{◌≡◌}
use Rattle.byte_bench.specs.Horner.{value_of}
use Rattle.byte_bench.proofs.byte_value_at.Given as goal

abbrev pub invariant-loop-coefficient : goal.invariant-loop-coefficient
invariant-loop-coefficient l = l.total ≡ value_of l.coefficient-index l.coefficients l.x
