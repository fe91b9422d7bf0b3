-- The product of bytes keeps the laws of a field, and so does the inverse. Assumes nothing.
use Rattle.std.specs.Prelude.{◌≡◌, ℕ, zero, suc, ◌+◌, ◌-◌, ◌<◌, ◌≢◌, bit_xor, refl}
use Rattle.std.proofs.Common.{sym, ap, ap₂, ◌∙◌, lit<}
use Rattle.byte.specs.Polynomial.{power}
use Rattle.byte.specs.Bytes.{byte_product, raised, byte_inverse}
use Rattle.byte.specs.Remainder.{product_times, product_lt}
use Rattle.byte.specs.Times.{times, to_the, times_comm, times_assoc, times_distributes, times_one, times_inverse, zero_to_the, inverse_by, power_times, zero_times, times_zero}

pub product_comm : (a b : ℕ) → a < 256 → b < 256 → byte_product a b ≡ byte_product b a
product_comm a b ha hb = product_times a b ha ∙ times_comm a b ha hb ∙ sym (product_times b a hb)

pub product_assoc : (a b c : ℕ) → a < 256 → b < 256 → c < 256 → byte_product (byte_product a b) c ≡ byte_product a (byte_product b c)
product_assoc a b c ha hb hc =
    product_times (byte_product a b) c (product_lt a b) ∙ ap (λ t. times 8 t c) (product_times a b ha) ∙ times_assoc a b c ha hb hc
    ∙ sym (product_times a (byte_product b c) ha ∙ ap (times 8 a) (product_times b c hb))

pub product_distributes : (a b c : ℕ) → a < 256 → b < 256 → c < 256 → byte_product a (bit_xor b c) ≡ bit_xor (byte_product a b) (byte_product a c)
product_distributes a b c ha hb hc =
    product_times a (bit_xor b c) ha ∙ times_distributes a b c ha hb hc ∙ sym (ap₂ bit_xor (product_times a b ha) (product_times a c ha))

pub product_one : (a : ℕ) → a < 256 → byte_product a 1 ≡ a
product_one a h = product_times a 1 h ∙ times_one a h

raised_to_the : (n a : ℕ) → a < 256 → raised n a ≡ to_the n a
unfolding raised to_the
raised_to_the zero a h = refl
raised_to_the (suc n) a h = product_times a (raised n a) h ∙ ap (times 8 a) (raised_to_the n a h)

inverse_to_the : (a : ℕ) → a < 256 → byte_inverse a ≡ to_the 254 a
unfolding byte_inverse
inverse_to_the a h = raised_to_the 254 a h

pub inverse_lt : (a : ℕ) → a < 256 → byte_inverse a < 256
unfolding byte_inverse raised
inverse_lt a h = product_lt a (raised 253 a)

pub product_inverse : (a : ℕ) → a < 256 → (a ≢ 0) → byte_product a (byte_inverse a) ≡ 1
product_inverse a h n = product_times a (byte_inverse a) h ∙ ap (times 8 a) (inverse_to_the a h) ∙ times_inverse a h n

pub inverse_zero : byte_inverse 0 ≡ 0
inverse_zero = inverse_to_the 0 (lit< tt) ∙ zero_to_the 253

-- the inverse of a power of x
pub inverse_power : (a i : ℕ) → a < 256 → power i ≡ a → i < 255 → byte_inverse a ≡ power (255 - i)
inverse_power a i h e l = inverse_to_the a h ∙ inverse_by a i e l

-- exponents add up
pub power_product : (a b i j : ℕ) → a < 256 → power i ≡ a → power j ≡ b → byte_product a b ≡ power (i + j)
power_product a b i j h e f = product_times a b h ∙ sym (ap₂ (times 8) e f) ∙ power_times i j

pub zero_product : (a b : ℕ) → a ≡ 0 → byte_product a b ≡ 0
zero_product a b e = ap (λ t. byte_product t b) e ∙ product_times 0 b (lit< tt) ∙ zero_times 8 b

pub product_zero : (a b : ℕ) → a < 256 → b ≡ 0 → byte_product a b ≡ 0
product_zero a b h e = ap (byte_product a) e ∙ product_times a 0 h ∙ times_zero 8 a
