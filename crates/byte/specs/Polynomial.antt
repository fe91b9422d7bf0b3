-- Polynomials over the two elements 0 and 1, and their remainders by x^8 + x^4 + x^3 + x^2 + 1. Assumes nothing.
-- A number stands for a polynomial: bit i is the coefficient of x^i. So the sum of two polynomials is the exclusive or
-- of their numbers, x times p is p * 2, degree below n means a number below 2^n, and the modulus is 11D hexadecimal.
use Rattle.std.specs.Prelude.{◌≡◌, ℕ, zero, suc, ◌*◌, ◌/◌, ◌%◌, ◌<◌, cond, ◌==◌, bit_xor}

-- x^8 + x^4 + x^3 + x^2 + 1
abbrev pub modulus : ℕ
modulus = 0x11D

-- p q for q of n coefficients: the sum of p x^i over the i for which q has x^i
unfoldable pub multiply : ℕ → ℕ → ℕ → ℕ
multiply zero p q = 0
multiply (suc n) p q = bit_xor (cond (q % 2 == 0) 0 p) (multiply n (p * 2) (q / 2))

-- p is r plus a multiple of the modulus
abbrev pub Congruent : ℕ → ℕ → Type 0
Congruent p r = (q : ℕ) × (p ≡ bit_xor r (multiply 9 q modulus))

-- r is a remainder of p: it has degree below 8, and differs from p by a multiple of the modulus
pub record Remainder (p : ℕ) (r : ℕ) : Type 0 where
  pub small : r < 256
  pub congruent : Congruent p r

-- r is the one remainder of p
pub record TheRemainder (p : ℕ) (r : ℕ) : Type 0 where
  pub is : Remainder p r
  pub only : (s : ℕ) → Remainder p s → s ≡ r

-- x a for a of degree below 8, reduced: where a has x^7, the modulus takes x^8 away
unfoldable pub times_x : ℕ → ℕ
times_x a = bit_xor (a * 2) (a / 128 * modulus)

-- the remainder of p, for p of n coefficients: what p is beyond its constant, reduced, times x, plus the constant
unfoldable pub remainder : ℕ → ℕ → ℕ
remainder zero p = 0
remainder (suc n) p = bit_xor (times_x (remainder n (p / 2))) (p % 2)

-- the remainder of x^n
unfoldable pub power : ℕ → ℕ
power zero = 1
power (suc n) = times_x (power n)
