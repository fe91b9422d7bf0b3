-- What changing the places that one data symbol reaches leaves. Assumes nothing.
use Rattle.std.specs.Prelude.{ℕ, List, slice_index_or}
use Rattle.field.specs.Laws.{Operations}
use Rattle.store.specs.Meaning.{Meaning}
use Rattle.sheet.specs.declared.place.Place.{Place}
use Rattle.sheet.specs.Places.{at, listed}
use Rattle.calls.specs.Reading.{symbol_at, raised, painted}

-- each place of a list read once, and its symbol changed by the difference times its weight
unfoldable pub changed : {F : Type 0} → Operations F → Meaning F → List Place → (ℕ → ℕ → F) → F → Meaning F
changed o m ps weight difference = painted (raised m ps) (λ i j. listed ps (at i j)) (λ i j. o.sum (symbol_at o.zero m i j) (o.product (weight i j) difference))

-- the difference between a new symbol and the one at the first place of a list
unfoldable pub first_difference : {F : Type 0} → Operations F → Meaning F → List Place → F → F
first_difference o m ps x = o.difference x (symbol_at o.zero m (slice_index_or ps 0 (at 0 0)).row (slice_index_or ps 0 (at 0 0)).node)

unfoldable pub patched_by : {F : Type 0} → Operations F → Meaning F → List Place → (ℕ → ℕ → F) → F → Meaning F
patched_by o m ps weight x = changed o m ps weight (first_difference o m ps x)
