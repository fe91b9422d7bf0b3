use Rattle.std.proofs.Common.{◌≡◌, suc, ◌+◌, ap, ◌∙◌, ap₂, arith}
use Rattle.std.proofs.lemmas.List.{get_or_read}
use Rattle.byte.specs.Bytes.{byte, byte_operations}
use Rattle.byte_bench.specs.Horner.{value_of}
use Rattle.byte_bench.proofs.byte_value_at.Goals as goal

pub loop-coefficient-init : goal.loop-coefficient-init
unfolding value_of
loop-coefficient-init c = c.new-total.ensures

pub loop-coefficient-preserved : goal.loop-coefficient-preserved
unfolding value_of
loop-coefficient-preserved c =
    let cs = c.args.coefficients.now in
    let i = c.loop-coefficient.coefficient-index in
    let next : suc i ≡ i + 1 = omega arith in
    let read = get_or_read cs i c.coefficient-item.result (omega arith) c.coefficient-item.is (byte 0) in
    c.sum-total.ensures
    ∙ ap₂ byte_operations.sum (c.product.ensures ∙ ap (λ t. byte_operations.product t c.args.x) c.loop-coefficient.invariant) read
    ∙ ap (λ n. value_of n cs c.args.x) next
