-- How a blank data place is fetched: the places that are read, and what its symbol is from the symbols at them. Assumes nothing.
use Rattle.std.specs.Prelude.{ℕ, ◌+◌, ◌-◌, ◌*◌, cond, ◌&&◌, List, ◌∷◌, map, ◌==◌, nat_le, nat_lt}
use Rattle.std.specs.List.{range_with_len}
use Rattle.field.specs.Laws.{Operations}
use Rattle.sheet.specs.declared.place.Place.{Place}
use Rattle.sheet.specs.declared.place.Entry.{Entry}
use Rattle.sheet.specs.declared.place.Part.TheVariants.{First}
use Rattle.sheet.specs.Places.{at, in_part}
use Rattle.array.specs.declared.parameters.Parameters.{Parameters}
use Rattle.array.specs.Layout.{steps, wrap, offset, step_node}
use Rattle.array.specs.Symbols.{past}
use Rattle.array.specs.Sheet.{row_places, local_places}
use Rattle.array.specs.Recovered.{around, by_local}
use Rattle.access.specs.declared.fetch.Way.{Way}
use Rattle.access.specs.declared.fetch.Way.TheVariants.{OwnRow, OwnStep, LastStep}

-- how a data place of offset x is solved: by the Class B symbol of step x, or by that of the last step where x is past it;
-- by its own row where x is at most τ, and where no node is of Class B
abbrev pub way_of : Parameters → ℕ → Way
way_of p x = cond (nat_le x p.tau) OwnRow (cond (nat_le x (steps p)) OwnStep (cond (p.b == 0) OwnRow LastStep))

-- row j of the Class B node of step x, and the data past the diagonal that its symbol adds
unfoldable pub step_reads : Parameters → ℕ → ℕ → List Place
step_reads p j x = at j (step_node p x) ∷ map (λ m. at j (wrap p (j + m))) (range_with_len 1 (p.k - x - 1))

-- what is read for the data place in row i of node j, of offset x
abbrev pub reads : Parameters → ℕ → ℕ → ℕ → Way → List Place
reads p i j x OwnRow = row_places p j i
reads p i j x OwnStep = step_reads p j x
reads p i j x LastStep = local_places p x i

unfoldable pub fetch_places : Parameters → ℕ → ℕ → List Place
fetch_places p i j = reads p i j (offset p i j) (way_of p (offset p i j))

-- THE LISTING of a fetch of the data place in row i of node j
unfoldable pub fetch_entries : Parameters → ℕ → ℕ → List Entry
fetch_entries p i j = in_part First (fetch_places p i j)

-- how many places that are
abbrev pub lesser : ℕ → ℕ → ℕ
lesser x y = cond (nat_le x y) x y

abbrev pub fetch_size : Parameters → ℕ → ℕ
fetch_size p x = cond (nat_lt p.tau x && nat_lt 0 p.b) (p.k - lesser x (steps p)) p.k

-- the symbol that is sought, from the symbols f
abbrev pub solved_by : {F : Type 0} → Operations F → (ℕ → F) → Parameters → (ℕ → ℕ → F) → ℕ → ℕ → ℕ → Way → F
solved_by o symbol p f i j x OwnRow = around o symbol p f j i j
solved_by o symbol p f i j x OwnStep = o.difference (f j (step_node p x)) (past o p f j x)
solved_by o symbol p f i j x LastStep = by_local o p f (p.k - x) i

-- THE FETCHED SYMBOL in row i of node j, from the symbols f
unfoldable pub fetch_symbol : {F : Type 0} → Operations F → (ℕ → F) → Parameters → (ℕ → ℕ → F) → ℕ → ℕ → F
fetch_symbol o symbol p f i j = solved_by o symbol p f i j (offset p i j) (way_of p (offset p i j))

-- the record of working memory for each place that is read: a data place has its own, and the one parity place has that of
-- the data place that is sought, which is not read
abbrev pub fetch_slot : Parameters → ℕ → ℕ → ℕ → ℕ → ℕ
fetch_slot p i j r m = cond (nat_lt r p.k && nat_lt m p.k) (p.k * r + m) (p.k * i + j)
