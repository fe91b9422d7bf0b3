-- Lists of places: which places are listed, and a listing with its repeats skipped. Assumes nothing.
use Rattle.std.specs.Prelude.{◌≡◌, ℕ, Bool, true, false, cond, ◌&&◌, ◌||◌, List, [], ◌∷◌, ◌++◌, map, ◌==◌}
use Rattle.sheet.specs.declared.place.Place.{Place}
use Rattle.sheet.specs.declared.place.Part.{Part}
use Rattle.sheet.specs.declared.place.Entry.{Entry}

-- the place in row i of node j
abbrev pub at : ℕ → ℕ → Place
at i j = record { row = i; node = j }

abbrev pub same_place : Place → Place → Bool
same_place p q = p.row == q.row && p.node == q.node

-- whether a place is on a list
unfoldable pub listed : List Place → Place → Bool
listed [] p = false
listed (q ∷ qs) p = same_place p q || listed qs p

-- a list with a place at its end, unless the list has it
unfoldable pub with_place : List Place → Place → List Place
with_place ps p = cond (listed ps p) ps (ps ++ (p ∷ []))

unfoldable pub distinct_from : List Place → List Place → List Place
distinct_from seen [] = seen
distinct_from seen (p ∷ ps) = distinct_from (with_place seen p) ps

-- a listing with its repeats skipped: a place already listed is left out
unfoldable pub distinct : List Place → List Place
distinct ps = distinct_from [] ps

-- the places of a listing in parts
unfoldable pub places_of : List Entry → List Place
places_of es = map (λ e. e.place) es

-- places that all stand in one part
abbrev pub in_part : Part → List Place → List Entry
in_part part ps = map (λ p. record { part = part; place = p }) ps

-- THE SHEET of a listing: its places, each once
unfoldable pub sheet_of : List Entry → List Place
sheet_of es = distinct (places_of es)

-- two tables have the same symbol at each place of a list
abbrev pub Agree : {F : Type 0} → (ℕ → ℕ → F) → (ℕ → ℕ → F) → List Place → Type 0
Agree v w ps = (i j : ℕ) → listed ps (at i j) ≡ true → v i j ≡ w i j
