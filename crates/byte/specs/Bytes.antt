-- The byte field: its symbols are the bytes, read as polynomials of degree below 8. Assumes nothing.
use Rattle.std.specs.Prelude.{ℕ, zero, suc, ◌%◌, ◌<◌, cond, Some, None, Option, bit_xor, nat_lt}
use Rattle.std.proofs.Common.{arith}
use Rattle.field.specs.Laws.{Operations}
use Rattle.byte.specs.declared.byte.Byte.{Byte}
use Rattle.byte.specs.Polynomial.{multiply, remainder}

-- the product of two bytes: the remainder of the product of the polynomials
unfoldable pub byte_product : ℕ → ℕ → ℕ
byte_product a b = remainder 16 (multiply 8 a b)

-- a times itself, n factors in all
unfoldable pub raised : ℕ → ℕ → ℕ
raised zero a = 1
raised (suc n) a = byte_product a (raised n a)

-- the inverse of a byte: the 255th power of every byte but 0 is 1, so the 254th undoes it; that of 0 is 0
unfoldable pub byte_inverse : ℕ → ℕ
byte_inverse a = raised 254 a

pub below : (n : ℕ) → n % 256 < 256
below n = omega arith

-- the symbol that holds a byte
unfoldable pub byte : ℕ → Byte
byte n = record { value = n % 256; small = below n }

abbrev pub byte_operations : Operations Byte
byte_operations = record {
  zero = byte 0;
  one = byte 1;
  sum = λ a b. byte (bit_xor a.value b.value);
  difference = λ a b. byte (bit_xor a.value b.value);
  product = λ a b. byte (byte_product a.value b.value);
  inverse = λ a. byte (byte_inverse a.value);
}

-- the bytes are their own numbers; from 256 on a number has no symbol
abbrev pub byte_symbol : ℕ → Option Byte
byte_symbol n = cond (nat_lt n 256) (Some (byte n)) None

abbrev pub byte_number : Byte → ℕ
byte_number a = a.value
