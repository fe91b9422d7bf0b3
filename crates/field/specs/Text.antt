-- How a decimal symbol is written. Assumes nothing.
use Rattle.std.specs.Prelude.{ℕ, List, cond, codes, decimal, ◌==◌}
use Rattle.field.specs.Decimal.{number_of}
use Rattle.field.specs.declared.decimal.Decimal.{Decimal}

-- as its digit, and ten as X
abbrev pub text_of : Decimal → List ℕ
text_of u = cond (number_of u == 10) (codes "X") (decimal (number_of u))
