-- What the program writes of an input, byte by byte. Assumes nothing.
use Rattle.std.specs.Prelude.{ℕ, ◌+◌, cond, List, [], ◌∷◌, ◌++◌, map, length, Ok, Err, codes, decimal, Result, nat_lt, slice_index_or}
use Rattle.std.specs.List.{range_with_len, flat_map}
use Rattle.field.specs.Decimal.{symbol_of, decimal as decimals}
use Rattle.field.specs.declared.decimal.Decimal.{Decimal}
use Rattle.field.specs.declared.decimal.Decimal.TheVariants.{Zero}
use Rattle.row.specs.RowRule.{row_symbol}
use Rattle.row_text.specs.Input.{glyph_of, row_length, symbols_of, line_of}
use Rattle.row_text.specs.declared.fault.InputFault.{InputFault}
use Rattle.row_text.specs.declared.fault.InputFault.TheVariants.{NotText, NoSymbol, WordCount}

-- a symbol, and a number, after a space
abbrev pub spaced : Decimal → List ℕ
spaced u = 32 ∷ glyph_of u ∷ []

abbrev pub spaced_number : ℕ → List ℕ
spaced_number n = 32 ∷ decimal n

-- the row's symbol at number m
abbrev pub symbol_in : List Decimal → ℕ → Decimal
symbol_in d m = row_symbol decimals symbol_of d m

-- the row, with the two symbols that follow it
unfoldable pub row_line : List Decimal → List ℕ
row_line d =
    codes "row" ++ (flat_map spaced d ++ (spaced (symbol_in d (length d)) ++ (spaced (symbol_in d (length d + 1)) ++ 10 ∷ [])))

-- 0, 1, 2, .. with j left out
abbrev pub skip : ℕ → ℕ → ℕ
skip j i = cond (nat_lt i j) i (i + 1)

-- the k numbers that are read in place of j: the other data places, and number k
abbrev pub read_places : ℕ → ℕ → List ℕ
read_places k j = map (skip j) (range_with_len 0 k)

-- the symbol at number n, given the data and the row's symbol after them
abbrev pub known : List Decimal → Decimal → ℕ → Decimal
known d last n = cond (nat_lt n (length d)) (slice_index_or d n Zero) last

-- a place, the numbers that were read, and the symbol that came back
unfoldable pub place_line : ℕ → List ℕ → Decimal → List ℕ
place_line j numbers u =
    codes "place " ++ (decimal j ++ (codes " read" ++ (flat_map spaced_number numbers ++ (codes " gave" ++ (spaced u ++ 10 ∷ [])))))

-- the line of each of the first n places: each symbol came back right
abbrev pub place_lines : List Decimal → ℕ → List ℕ
place_lines d n = flat_map (λ j. place_line j (read_places (length d) j) (slice_index_or d j Zero)) (range_with_len 0 n)

unfoldable pub total_line : ℕ → ℕ → List ℕ
total_line right k = decimal right ++ (codes " of " ++ (decimal k ++ (codes " came back right" ++ 10 ∷ [])))

-- what is written of a row of k symbols: all k come back right
unfoldable pub report : List Decimal → List ℕ
report d = row_line d ++ (place_lines d (length d) ++ total_line (length d) (length d))

-- what is written of a line that holds no row
unfoldable pub fault_line : InputFault → List ℕ
fault_line (NotText column) = codes "column " ++ (decimal column ++ (codes ": this byte is no text" ++ 10 ∷ []))
fault_line (NoSymbol word column) =
    codes "word " ++ (decimal word ++ (codes " at column " ++ (decimal column ++ (codes ": a symbol is one of 0 to 9 or X" ++ 10 ∷ []))))
fault_line (WordCount n) = codes "words: " ++ (decimal n ++ (codes ", and a row has 3 to 9" ++ 10 ∷ []))

abbrev pub answered : List ℕ → Result ℕ InputFault → List ℕ
answered line (Ok k) = report (symbols_of line k)
answered line (Err fault) = fault_line fault

-- what is written of an input
abbrev pub transcript_of : List ℕ → List ℕ
transcript_of input = answered (line_of input) (row_length (line_of input))
