-- Working memory as a table of symbols by place. Assumes nothing.
use Rattle.std.specs.Prelude.{◌≡◌, ℕ, ◌+◌, ◌-◌, ◌*◌, ◌^◌, ◌<◌, Bool, cond, ◌&&◌, List, map, length, nat_lt, slice_index_or}
use Rattle.sheet.specs.declared.place.Record.{Record}
use Rattle.sheet.specs.Places.{at, same_place}
use Rattle.calls.specs.Reading.{blank_record}

-- a record has the place (i, j)
unfoldable pub has_place : {F : Type 0} → Record F → ℕ → ℕ → Bool
has_place r i j = same_place r.place (at i j)

-- the symbol that a record has for a place: its own, if it has the place, and else zero
unfoldable pub symbol_for : {F : Type 0} → F → Record F → ℕ → ℕ → F
symbol_for z r i j = cond (has_place r i j) r.symbol z

-- the symbol that memory keeps for a place, in the place's slot
unfoldable pub kept : {F : Type 0} → F → List (Record F) → (ℕ → ℕ → ℕ) → ℕ → ℕ → F
kept z memory slot i j = symbol_for z (slice_index_or memory (slot i j) (blank_record z)) i j

-- a record without a place: no store has the row
unfoldable pub vacant_record : {F : Type 0} → F → Record F
vacant_record z = record { place = at (2 ^ 64 - 1) 0; symbol = z }

-- no record of a memory has a place
unfoldable pub Vacated : {F : Type 0} → F → List (Record F) → Type 0
Vacated z memory = (k : ℕ) → k < length memory → slice_index_or memory k (blank_record z) ≡ vacant_record z

-- the same record all over a memory
unfoldable pub spread_over : {F : Type 0} → Record F → List (Record F) → List (Record F)
spread_over r memory = map (λ _. r) memory

-- the symbols of a slice row by row, and zero off the data
unfoldable pub laid_out : {F : Type 0} → F → List F → ℕ → ℕ → ℕ → ℕ → F
laid_out z xs rows columns i j = cond (nat_lt i rows && nat_lt j columns) (slice_index_or xs (i * columns + j) z) z
