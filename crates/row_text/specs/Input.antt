-- A line that holds a row: 3 to 9 words, each one decimal symbol, parted by single spaces. So a symbol stands at each even
-- place of the line and a space at each odd one. Words and columns are counted from 1. Assumes nothing.
use Rattle.std.specs.Prelude.{ℕ, ◌+◌, ◌-◌, ◌*◌, ◌/◌, ◌%◌, Bool, cond, List, [], ◌∷◌, map, length, take, is_some, Some, None, Ok, Err, Option, Result, ◌==◌, nat_lt, slice_index}
use Rattle.std.specs.List.{range_with_len}
use Rattle.field.specs.Decimal.{number_of, symbol_of}
use Rattle.field.specs.declared.decimal.Decimal.{Decimal}
use Rattle.field.specs.declared.decimal.Decimal.TheVariants.{Zero, Ten}
use Rattle.row.specs.Numbered.{or_else}
use Rattle.row_text.specs.declared.fault.InputFault.{InputFault}
use Rattle.row_text.specs.declared.fault.InputFault.TheVariants.{NotText, NoSymbol, WordCount}

-- a symbol is written as its digit, and ten as X
abbrev pub glyph_of : Decimal → ℕ
glyph_of u = cond (number_of u == 10) 88 (48 + number_of u)

-- the symbol that a byte writes, where it writes one
abbrev pub symbol_byte : ℕ → Option Decimal
symbol_byte b = cond (nat_lt b 48) None (cond (nat_lt b 58) (symbol_of (b - 48)) (cond (b == 88) (Some Ten) None))

-- whether byte b may stand at place i
abbrev pub sound : ℕ → ℕ → Bool
sound i b = cond (i % 2 == 0) (is_some (symbol_byte b)) (b == 32)

-- whether b is a printable character
abbrev pub printable : ℕ → Bool
printable b = cond (nat_lt b 32) (nat_lt 32 b) (nat_lt b 127)

-- what is wrong where b may not stand at place i: the byte, or the word that it stands in or right after
abbrev pub fault_at : ℕ → ℕ → InputFault
fault_at i b = cond (printable b) (NoSymbol (i / 2 + 1) (i / 2 * 2 + 1)) (NotText (i + 1))

-- the first fault of the bytes from place i on
abbrev pub first_fault : ℕ → List ℕ → Option InputFault
first_fault i [] = None
first_fault i (b ∷ bs) = cond (sound i b) (first_fault (i + 1) bs) (Some (fault_at i b))

-- the number of symbols on a line of n bytes of which each may stand where it does
abbrev pub counted : ℕ → Result ℕ InputFault
counted n =
    cond (n == 0) (Err (WordCount 0))
    (cond (n % 2 == 0) (Err (NoSymbol (n / 2 + 1) (n + 1)))
    (cond (nat_lt (n / 2 + 1) 3) (Err (WordCount (n / 2 + 1))) (cond (nat_lt 9 (n / 2 + 1)) (Err (WordCount (n / 2 + 1))) (Ok (n / 2 + 1)))))

abbrev pub unless_fault : Option InputFault → Result ℕ InputFault → Result ℕ InputFault
unless_fault None r = r
unless_fault (Some f) r = Err f

-- the number of symbols of the row that a line holds, or what is wrong with the line
abbrev pub row_length : List ℕ → Result ℕ InputFault
row_length line = unless_fault (first_fault 0 line) (counted (length line))

-- the symbol j of a line
abbrev pub symbol_at : List ℕ → ℕ → Decimal
symbol_at line j = or_else Zero (symbol_byte (slice_index line (j * 2)))

-- the first k symbols of a line
abbrev pub symbols_of : List ℕ → ℕ → List Decimal
symbols_of line k = map (symbol_at line) (range_with_len 0 k)

-- an input without a closing line feed
abbrev pub line_of : List ℕ → List ℕ
line_of input = cond (slice_index input (length input - 1) == 10) (take (length input - 1) input) input
