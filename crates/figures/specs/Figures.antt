-- Worked figures: one small array, its sheets, and the answers that are known for them. Assumes nothing.
use Rattle.std.specs.Prelude.{◌≡◌, ℕ, ◌<◌, List, [], ◌∷◌, map, length, Some, None, Option, slice_index_or}
use Rattle.std.specs.List.{range_with_len}
use Rattle.field.specs.Decimal.{decimal, symbol_of}
use Rattle.field.specs.declared.decimal.Decimal.{Decimal}
use Rattle.field.specs.declared.decimal.Decimal.TheVariants.{Zero, One, Two, Three, Four, Five, Six, Seven, Eight, Nine, Ten}
use Rattle.byte.specs.Bytes.{byte, byte_operations}
use Rattle.row.specs.Numbered.{numbered}
use Rattle.sheet.specs.Places.{at}
use Rattle.array.specs.declared.parameters.Parameters.{Parameters}
use Rattle.array.specs.declared.fault.ParameterFault.{ParameterFault}
use Rattle.array.specs.Checks.{declined, declined_over, fault_number}
use Rattle.array.specs.Symbols.{array}
use Rattle.array.specs.Sheet.{node_sheet}

-- s has these parameters
pub record Has (s : Parameters) (k a tau b : ℕ) : Type 0 where
  pub data_nodes : s.k ≡ k
  pub class_a : s.a ≡ a
  pub piggybacked : s.tau ≡ tau
  pub class_b : s.b ≡ b

-- the file, row by row
abbrev pub file : List (List Decimal)
file =
    (Three ∷ One ∷ Four ∷ One ∷ [])
    ∷ (Five ∷ Nine ∷ Two ∷ Six ∷ [])
    ∷ (Five ∷ Three ∷ Five ∷ Eight ∷ [])
    ∷ (Nine ∷ Seven ∷ Nine ∷ Three ∷ []) ∷ []

abbrev pub file_symbol : ℕ → ℕ → Decimal
file_symbol i j = slice_index_or (slice_index_or file i []) j Zero

-- row i of the array over the file, at its seven nodes
unfoldable pub file_row : Parameters → ℕ → List Decimal
file_row s i = map (λ m. array decimal (numbered Zero symbol_of) s file_symbol i m) (range_with_len 0 7)

-- the sheet of every data node has n places
abbrev pub DataSheets : ℕ → ℕ → ℕ → ℕ → ℕ → Type 0
DataSheets k a tau b n = (s : Parameters) → Has s k a tau b → (j : ℕ) → j < k → length (node_sheet s j) ≡ n

-- a check is declined with this number
abbrev pub DeclinedWith : Option ParameterFault → ℕ → Type 0
DeclinedWith answer n = (f : ParameterFault) × (answer ≡ Some f) × (fault_number f ≡ n)

pub record Figures : Type 0 where
  pub rows : (s : Parameters) → Has s 4 2 1 1
      → (file_row s 0 ≡ Three ∷ One ∷ Four ∷ One ∷ Three ∷ Four ∷ Six ∷ [])
      × (file_row s 1 ≡ Five ∷ Nine ∷ Two ∷ Six ∷ Ten ∷ Six ∷ Nine ∷ [])
      × (file_row s 2 ≡ Five ∷ Three ∷ Five ∷ Eight ∷ Nine ∷ Three ∷ One ∷ [])
      × (file_row s 3 ≡ Nine ∷ Seven ∷ Nine ∷ Three ∷ Ten ∷ Eight ∷ Four ∷ [])
  pub mend_1 : (s : Parameters) → Has s 4 2 1 1
      → node_sheet s 1 ≡ at 1 0 ∷ at 1 2 ∷ at 1 3 ∷ at 1 4 ∷ at 1 5 ∷ at 1 6 ∷ at 0 6 ∷ at 2 0 ∷ []
  pub sheet_4211 : DataSheets 4 2 1 1 8
  pub sheet_4212 : DataSheets 4 2 1 2 7
  pub sheet_5210 : DataSheets 5 2 1 0 21
  pub sheet_5211 : DataSheets 5 2 1 1 12
  pub sheet_5213 : DataSheets 5 2 1 3 9
  pub sheet_6321 : DataSheets 6 3 2 1 15
  pub sheet_8432 : DataSheets 8 4 3 2 19
  -- these parameters are accepted, and the first also over the decimal field
  pub accepted_4211 : declined_over 11 4 2 1 1 ≡ None
  pub accepted_4212 : declined 4 2 1 2 ≡ None
  pub accepted_5210 : declined 5 2 1 0 ≡ None
  pub accepted_5211 : declined 5 2 1 1 ≡ None
  pub accepted_5213 : declined 5 2 1 3 ≡ None
  pub accepted_6321 : declined 6 3 2 1 ≡ None
  pub accepted_8432 : declined 8 4 3 2 ≡ None
  pub too_many : DeclinedWith (declined 4 2 1 3) 14
  pub small_field : DeclinedWith (declined_over 11 8 4 3 2) 15
  pub byte_product : byte_operations.product (byte 2) (byte 128) ≡ byte 29
  pub decimal_inverse : decimal.inverse Four ≡ Three
