-- What replacing one data symbol changes: the places, and the weight of the difference at each. Assumes nothing.
use Rattle.std.specs.Prelude.{ℕ, ◌+◌, ◌-◌, cond, ◌&&◌, List, ◌∷◌, ◌++◌, map, ◌==◌, nat_le, nat_lt}
use Rattle.std.specs.List.{range_with_len}
use Rattle.field.specs.Laws.{Operations}
use Rattle.row.specs.Interpolation.{basis}
use Rattle.sheet.specs.declared.place.Place.{Place}
use Rattle.sheet.specs.declared.place.Entry.{Entry}
use Rattle.sheet.specs.declared.place.Part.TheVariants.{First}
use Rattle.sheet.specs.Places.{at, in_part}
use Rattle.array.specs.declared.parameters.Parameters.{Parameters}
use Rattle.array.specs.Layout.{steps, offset, step_node}
use Rattle.access.specs.Fetch.{lesser}

-- row i of every Class A node
unfoldable pub rule_places : Parameters → ℕ → List Place
rule_places p i = map (λ c. at i (p.k + c)) (range_with_len 0 p.a)

-- how many Class B symbols of its own row add a data symbol of offset x: those of the steps past τ and below x
abbrev pub crossings : Parameters → ℕ → ℕ
crossings p x = lesser (steps p) (x - 1) - p.tau

unfoldable pub crossed_places : Parameters → ℕ → ℕ → List Place
crossed_places p i x = map (λ t. at i (step_node p t)) (range_with_len (p.tau + 1) (crossings p x))

-- whether a step has the offset x
abbrev pub carries : Parameters → ℕ → ℕ
carries p x = cond (nat_le 1 x && nat_le x (steps p)) 1 0

-- the symbol that the node of step x adds a data symbol of node j and offset x to: its piggyback up to τ, of Class B past it
unfoldable pub carried_places : Parameters → ℕ → ℕ → List Place
carried_places p j x = map (λ t. at j (step_node p t)) (range_with_len x (carries p x))

-- its place, the Class A nodes, the piggyback, the Class B nodes, each by rising node:
-- where it is a piggyback, no Class B symbol adds it
unfoldable pub put_places : Parameters → ℕ → ℕ → ℕ → List Place
put_places p i j x = at i j ∷ (rule_places p i ++ (crossed_places p i x ++ carried_places p j x))

-- THE LISTING of a put of the data symbol in row i of node j
unfoldable pub put_entries : Parameters → ℕ → ℕ → List Entry
put_entries p i j = in_part First (put_places p i j (offset p i j))

-- how many places that are
abbrev pub put_size : Parameters → ℕ → ℕ
put_size p x = 1 + p.a + crossings p x + carries p x

-- THE WEIGHT of the data symbol in row i of node j at the place in row r of node m: what the row rule gives it at a Class A
-- node, and one elsewhere
unfoldable pub put_weight : {F : Type 0} → Operations F → (ℕ → F) → Parameters → ℕ → ℕ → ℕ → ℕ → F
put_weight o symbol p i j r m =
    cond (r == i && (nat_le p.k m && nat_lt m (p.k + p.a))) (basis o symbol p.k j (symbol m)) o.one
