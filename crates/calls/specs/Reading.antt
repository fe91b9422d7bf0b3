-- What reading the places of a sheet leaves and gives. Assumes nothing.
use Rattle.std.specs.Prelude.{ℕ, ◌+◌, Bool, cond, ◌&&◌, List, map, Some, None, Option, ◌==◌, nat_lt}
use Rattle.store.specs.Meaning.{Meaning}
use Rattle.sheet.specs.declared.place.Place.{Place}
use Rattle.sheet.specs.declared.place.Record.{Record}
use Rattle.sheet.specs.Places.{at, listed}

unfoldable pub or_else : {F : Type 0} → F → Option F → F
or_else z None = z
or_else z (Some s) = s

-- the symbol that a place holds, or zero
unfoldable pub symbol_at : {F : Type 0} → F → Meaning F → ℕ → ℕ → F
symbol_at z m i j = or_else z (m.symbol i j)

-- the symbols that a store holds on a list of places, and zero elsewhere
unfoldable pub seen : {F : Type 0} → F → Meaning F → List Place → ℕ → ℕ → F
seen z m ps i j = cond (listed ps (at i j)) (symbol_at z m i j) z

-- the meaning with the meter of each place of a list raised by one, and no other
unfoldable pub raised : {F : Type 0} → Meaning F → List Place → Meaning F
raised m ps = record { rows = m.rows; nodes = m.nodes; life = m.life; symbol = m.symbol; meter = λ i j. cond (listed ps (at i j)) (m.meter i j + 1) (m.meter i j) }

-- the meaning with the symbols of f at the places inside, and the meters as they are
unfoldable pub painted : {F : Type 0} → Meaning F → (ℕ → ℕ → Bool) → (ℕ → ℕ → F) → Meaning F
painted m inside f = record { rows = m.rows; nodes = m.nodes; life = m.life; symbol = λ i j. cond (inside i j) (Some (f i j)) (m.symbol i j); meter = m.meter }

-- the places of the array, and those of one node in its rows
unfoldable pub in_array : ℕ → ℕ → ℕ → ℕ → Bool
in_array rows nodes i j = nat_lt i rows && nat_lt j nodes

unfoldable pub in_node : ℕ → ℕ → ℕ → ℕ → Bool
in_node rows node i j = nat_lt i rows && j == node

-- the meaning with the nodes below n blank, and their meters zero
unfoldable pub blank_below : {F : Type 0} → ℕ → Meaning F → Meaning F
blank_below n m = record { rows = m.rows; nodes = m.nodes; life = m.life; symbol = λ i j. cond (nat_lt j n) None (m.symbol i j); meter = λ i j. cond (nat_lt j n) 0 (m.meter i j) }

-- a record of working memory as an accepted call leaves it: place 0, 0 with symbol zero
unfoldable pub blank_record : {F : Type 0} → F → Record F
blank_record z = record { place = at 0 0; symbol = z }

unfoldable pub wiped : {F : Type 0} → F → List (Record F) → List (Record F)
wiped z memory = map (λ _. blank_record z) memory
