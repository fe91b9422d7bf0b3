use Rattle.std.proofs.Common.{◌≡◌, sym, ◌∙◌, subst, ⊎_elim, arith}
use Rattle.byte.specs.Polynomial.{multiply, TheRemainder}
use Rattle.byte.specs.Bytes.{byte_product}
use Rattle.byte.specs.Remainder.{the_remainder}
use Rattle.byte.specs.Products.{zero_product, product_zero, power_product}
use Rattle.byte.proofs.arithmetic.product.Goals as goal

pub returns-then-a-eq0 : goal.returns-then-a-eq0
returns-then-a-eq0 c =
    let a = c.args.a in
    let b = c.args.b in
    let e : 0 ≡ byte_product a b = sym (⊎_elim (λ z. zero_product a b z) (λ z. product_zero a b (omega arith) z.1) c.then-a-eq0.either) in record {
      product = e;
      remainder = subst (TheRemainder (multiply 8 a b)) (sym e) (the_remainder a b (omega arith));
    }

pub returns : goal.returns
returns c =
    let a = c.args.a in
    let b = c.args.b in
    let i = c.exponent_of.ensures.exponent in
    let j = c.exponent_of-2.ensures.exponent in
    let e = c.power_at.ensures ∙ sym (power_product a b c.exponent_of.result c.exponent_of-2.result (omega arith) i j) in record {
      product = e;
      remainder = subst (TheRemainder (multiply 8 a b)) (sym e) (the_remainder a b (omega arith));
    }
