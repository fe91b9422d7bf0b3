-- The value of a polynomial over bytes. Assumes nothing.
use Rattle.std.specs.Prelude.{ℕ, zero, suc, List, slice_index_or}
use Rattle.byte.specs.declared.byte.Byte.{Byte}
use Rattle.byte.specs.Bytes.{byte, byte_operations}

-- the value at x of the polynomial of the first n coefficients, the highest first
unfoldable pub value_of : ℕ → List Byte → Byte → Byte
value_of zero cs x = byte 0
value_of (suc n) cs x = byte_operations.sum (byte_operations.product (value_of n cs x) x) (slice_index_or cs n (byte 0))
