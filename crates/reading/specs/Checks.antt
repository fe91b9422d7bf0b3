-- What the check of a sheet answers. Assumes nothing.
use Rattle.std.specs.Prelude.{◌≡◌, ℕ, true, List, [], ◌∷◌, Ok, Err, Result}
use Rattle.store.specs.Meaning.{Meaning, probed}
use Rattle.store.specs.declared.fault.StoreFault.{StoreFault}
use Rattle.sheet.specs.declared.place.Entry.{Entry}
use Rattle.sheet.specs.declared.place.Place.{Place}
use Rattle.sheet.specs.Places.{at, listed}
use Rattle.calls.specs.declared.call.CallName.{CallName}
use Rattle.calls.specs.declared.call.SheetFault.{SheetFault}
use Rattle.calls.specs.Faults.{sheet_fault, unnamed}

-- what the check answers at one place, by what the probe of it answers and what the check of the rest does
unfoldable pub checked_next : {F : Type 0} → CallName → Entry → Result F StoreFault → Result (Unit {0}) SheetFault → Result (Unit {0}) SheetFault
checked_next call e (Ok s) rest = rest
checked_next call e (Err x) rest = Err (sheet_fault call e.part x)

-- THE CHECK of a listing: the first place that the store declines, if there is one
unfoldable pub checked : {F : Type 0} → CallName → Meaning F → List Entry → Result (Unit {0}) SheetFault
checked call m [] = Ok tt
checked call m (e ∷ es) = checked_next call e (probed m e.place.row e.place.node) (checked call m es)

-- what the probe of a place answers to its check
unfoldable pub probe_answer : {F : Type 0} → Result F StoreFault → Result (Unit {0}) SheetFault
probe_answer (Ok s) = Ok tt
probe_answer (Err x) = Err (unnamed x)

-- a place that is neither blank nor worn
abbrev pub Readable : {F : Type 0} → Meaning F → ℕ → ℕ → Type 0
Readable {F} m i j = (s : F) × (probed m i j ≡ Ok s)

-- so is each place of a list
abbrev pub Clear : {F : Type 0} → Meaning F → List Place → Type 0
Clear m ps = (i j : ℕ) → listed ps (at i j) ≡ true → Readable m i j
