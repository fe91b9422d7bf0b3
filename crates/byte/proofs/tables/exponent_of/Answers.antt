use Rattle.std.proofs.Common.{◌≡◌, ℕ, zero, suc, ◌<◌, refl, ap, ◌∙◌, arith}
use Rattle.byte.specs.Polynomial.{power}
use Rattle.byte.specs.Times.{exponent, exponent_lt, power_exponent}
use Rattle.byte.specs.Exponents.{exponents}
use Rattle.byte.proofs.tables.exponent_of.Goals as goal

right : (a : ℕ) → (a ≡ 0 → ⊥) → a < 256 → (power (exponent a) ≡ a) × (exponent a < 255)
right zero n h = absurd (n refl)
right (suc a) n h = (power_exponent a (omega arith), exponent_lt a (omega arith))

pub returns : goal.returns
unfolding exponent exponents
returns c =
    let a = c.args.a in
    let r = right a c.requires (omega arith) in
    let e : c.from-2.result ≡ exponent a = c.from-2.ensures ∙ ap exponent c.from.ensures in record {
      exponent = ap power e ∙ r.0;
      low = omega (arith, e, r.1);
    }
