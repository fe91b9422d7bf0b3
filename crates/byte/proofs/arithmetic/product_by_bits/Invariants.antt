use Rattle.std.proofs.Common.{◌≡◌, ◌-◌}
use lib.Bits.{bit_xor}
use Rattle.byte.specs.Times.{times}
use Rattle.byte.proofs.arithmetic.product_by_bits.Given as goal

-- what is done, and what is left
abbrev pub invariant-loop : goal.invariant-loop
invariant-loop l = bit_xor l.result (times (8 - l.counter) l.factor l.rest) ≡ times 8 l.a l.b
