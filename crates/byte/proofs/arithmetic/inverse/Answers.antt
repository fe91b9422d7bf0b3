use Rattle.std.proofs.Common.{◌<◌, sym, refl, ap, ◌∙◌, arith}
use Rattle.byte.specs.Bytes.{byte_product, byte_inverse}
use Rattle.byte.specs.Products.{product_inverse, inverse_zero, inverse_power}
use Rattle.byte.proofs.arithmetic.inverse.Goals as goal

pub returns-then-a-eq0 : goal.returns-then-a-eq0
returns-then-a-eq0 c =
    let e = c.if-a-eq0.true in record { inverse = sym (ap byte_inverse e ∙ inverse_zero); undoes = λ n. absurd (n e); zero = λ _. refl }

pub returns : goal.returns
returns c =
    let a = c.args.a in
    let h : a < 256 = omega arith in
    let exponent = c.exponent_of.ensures in
    let e = c.power_at.ensures ∙ sym (inverse_power a c.exponent_of.result h exponent.exponent exponent.low) in record {
      inverse = e;
      undoes = λ n. ap (byte_product a) e ∙ product_inverse a h n;
      zero = λ z. absurd (c.if-a-eq0.false z);
    }
