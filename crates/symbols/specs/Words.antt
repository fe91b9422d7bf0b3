-- The words that write symbols. Assumes nothing.
use Rattle.std.specs.Prelude.{ℕ, ◌+◌, cond, List, [], ◌∷◌, codes, decimal, ◌==◌}
use Rattle.byte.specs.Bytes.{byte_number}
use Rattle.byte.specs.declared.byte.Byte.{Byte}
use Rattle.field.specs.Decimal.{number_of}
use Rattle.field.specs.declared.decimal.Decimal.{Decimal}

-- X stands for ten, and its digit for each smaller number
abbrev pub eleven_word : ℕ → List ℕ
eleven_word n = cond (n == 10) (codes "X") ((48 + n) ∷ [])

abbrev pub decimal_word : Decimal → List ℕ
decimal_word u = eleven_word (number_of u)

-- a byte is written as its number, 0 to 255
abbrev pub byte_word : Byte → List ℕ
byte_word u = decimal (byte_number u)
