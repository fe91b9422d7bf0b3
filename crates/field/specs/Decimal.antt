-- The decimal symbols, which count modulo 11: their numbers, and the six operations by arithmetic on the numbers. Assumes nothing.
use Rattle.std.specs.Prelude.{ℕ, zero, suc, ◌+◌, ◌-◌, ◌*◌, ◌%◌, cond, Some, None, Option, ◌==◌}
use Rattle.field.specs.Laws.{Operations}
use Rattle.field.specs.declared.decimal.Decimal.{Decimal}
use Rattle.field.specs.declared.decimal.Decimal.TheVariants.{Zero, One, Two, Three, Four, Five, Six, Seven, Eight, Nine, Ten}

-- the number of a symbol
abbrev pub number_of : Decimal → ℕ
number_of Zero = 0
number_of One = 1
number_of Two = 2
number_of Three = 3
number_of Four = 4
number_of Five = 5
number_of Six = 6
number_of Seven = 7
number_of Eight = 8
number_of Nine = 9
number_of Ten = 10

-- the symbol with a number, where there is one
abbrev pub symbol_of : ℕ → Option Decimal
symbol_of zero = Some Zero
symbol_of (suc zero) = Some One
symbol_of (suc (suc zero)) = Some Two
symbol_of (suc (suc (suc zero))) = Some Three
symbol_of (suc (suc (suc (suc zero)))) = Some Four
symbol_of (suc (suc (suc (suc (suc zero))))) = Some Five
symbol_of (suc (suc (suc (suc (suc (suc zero)))))) = Some Six
symbol_of (suc (suc (suc (suc (suc (suc (suc zero))))))) = Some Seven
symbol_of (suc (suc (suc (suc (suc (suc (suc (suc zero)))))))) = Some Eight
symbol_of (suc (suc (suc (suc (suc (suc (suc (suc (suc zero))))))))) = Some Nine
symbol_of (suc (suc (suc (suc (suc (suc (suc (suc (suc (suc zero)))))))))) = Some Ten
symbol_of (suc (suc (suc (suc (suc (suc (suc (suc (suc (suc (suc n))))))))))) = None

abbrev or_zero : Option Decimal → Decimal
or_zero (Some u) = u
or_zero None = Zero

-- the symbol that a number leaves modulo 11
abbrev pub modulo : ℕ → Decimal
modulo n = or_zero (symbol_of (n % 11))

-- the largest number below n whose product with u leaves 1, as a symbol; zero where there is none
abbrev inverse_below : Decimal → ℕ → Decimal
inverse_below u zero = Zero
inverse_below u (suc n) = cond ((number_of u * n) % 11 == 1) (modulo n) (inverse_below u n)

-- the symbol whose product with u is one; zero where there is none
abbrev pub inverse_of : Decimal → Decimal
inverse_of u = inverse_below u 11

abbrev pub decimal : Operations Decimal
decimal = record {
  zero = Zero;
  one = One;
  sum = λ u v. modulo (number_of u + number_of v);
  difference = λ u v. modulo (number_of u + 11 - number_of v);
  product = λ u v. modulo (number_of u * number_of v);
  inverse = inverse_of;
}
