use Rattle.std.proofs.Common.{◌≡◌, suc, ◌+◌, ◌-◌, ◌/◌, sym, ap, ◌∙◌, ap₂, arith}
use lib.Bits.{bit_xor, xor_assoc, xor_zero_r}
use Rattle.byte.specs.Polynomial.{times_x}
use Rattle.byte.specs.Times.{times, bit_one, bit_zero}
use Rattle.byte.specs.Remainder.{product_times}
use Rattle.byte.proofs.arithmetic.product_by_bits.Goals as goal
use Rattle.byte.proofs.arithmetic.product_by_bits.Goals.{then-rest-ne0, else-rest-ne0}

pub loop-preserved : goal.loop-preserved
loop-preserved c =
    let n = 8 - (c.loop.counter + 1) in
    let s : 8 - c.loop.counter ≡ suc n = omega arith in
    let f = c.loop.factor in
    let r = c.loop.rest in
    let before : bit_xor c.loop.result (times (suc n) f r) ≡ times 8 c.args.a c.args.b
    = ap (λ m. bit_xor c.loop.result (times m f r)) (sym s) ∙ c.loop.invariant in
    let turned = ap (λ t. times n t (r / 2)) c.shifted-factor.ensures in
    elim c.if-rest-ne0.branch [
      | then-rest-ne0 w ↦
          ap₂ bit_xor w.result-is turned ∙ xor_assoc c.loop.result f (times n (times_x f) (r / 2))
          ∙ ap (bit_xor c.loop.result) (sym (bit_one n f r w.if-rest-ne0.true)) ∙ before
      | else-rest-ne0 w ↦
          ap₂ bit_xor w.result-is turned ∙ ap (bit_xor c.loop.result) (sym (bit_zero n f r w.if-rest-ne0.false)) ∙ before
    ]

pub returns : goal.returns
unfolding times
returns c =
    let e : 8 - c.loop.counter ≡ 0 = omega arith in
    sym (xor_zero_r c.loop.result) ∙ ap (λ m. bit_xor c.loop.result (times m c.loop.factor c.loop.rest)) (sym e) ∙ c.loop.invariant
    ∙ sym (product_times c.args.a c.args.b (omega arith))
