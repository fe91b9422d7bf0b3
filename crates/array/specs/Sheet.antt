-- The read sheets: which places a mend reads, in which order, and where each is kept. Assumes nothing.
use Rattle.std.specs.Prelude.{ℕ, ◌+◌, ◌-◌, ◌*◌, cond, ◌&&◌, List, ◌∷◌, ◌++◌, map, ◌==◌, nat_lt}
use Rattle.std.specs.List.{range_with_len}
use Rattle.array.specs.declared.parameters.Parameters.{Parameters}
use Rattle.sheet.specs.declared.place.Place.{Place}
use Rattle.sheet.specs.declared.place.Entry.{Entry}
use Rattle.sheet.specs.declared.place.Part.TheVariants.{First, Second, Third, Fourth}
use Rattle.array.specs.Layout.{nodes, steps, reach, wrap, first_step, step_node, step_of, skip}
use Rattle.sheet.specs.Places.{at, distinct, places_of, in_part, sheet_of}
use Rattle.array.specs.Each.{each}

-- for data node j: row i at the nodes 0, .., k but j
unfoldable pub row_places : Parameters → ℕ → ℕ → List Place
row_places s j i = map (λ c. at i (skip j c)) (range_with_len 0 s.k)

-- row j at the nodes of n steps from t on
unfoldable pub step_places : Parameters → ℕ → ℕ → ℕ → List Place
step_places s j t n = map (λ t. at j (step_node s t)) (range_with_len t n)

-- for the symbol of offset x > S, which stands in row i: the last Class B node, and what its symbol adds to the one that is sought
unfoldable pub local_places : Parameters → ℕ → ℕ → List Place
local_places s x i =
    at i (step_node s (steps s)) ∷ at (wrap s (i + steps s)) i
    ∷ map (λ m. at i (wrap s (i + skip (s.k - x) m))) (range_with_len 1 (reach s - 2))

unfoldable pub far_places : Parameters → ℕ → ℕ → List Place
far_places s j x = cond (s.b == 0) (row_places s j (wrap s (j + x))) (local_places s x (wrap s (j + x)))

-- how many there are of them
abbrev pub far_width : Parameters → ℕ
far_width s = cond (s.b == 0) s.k (reach s)

-- the offsets past S
abbrev pub far_offsets : Parameters → List ℕ
far_offsets s = range_with_len (steps s + 1) (reach s - 1)

-- THE LISTING of data node j, in parts
unfoldable pub entries : Parameters → ℕ → List Entry
entries s j =
    in_part First (row_places s j j)
    ++ (in_part Second (step_places s j 1 s.tau)
    ++ (in_part Third (step_places s j (s.tau + 1) s.b)
    ++ in_part Fourth (each (far_places s j) (far_offsets s))))

-- its places
unfoldable pub listing : Parameters → ℕ → List Place
listing s j = places_of (entries s j)

-- THE READ SHEET of data node j: its places, each once
unfoldable pub sheet : Parameters → ℕ → List Place
sheet s j = distinct (listing s j)

-- in row i the nodes of offset t and more are all but the t nodes i - t + 1, .., i, which wrap around: what is listed at c,
-- node rising
abbrev pub kept_node : ℕ → ℕ → ℕ → ℕ
kept_node t i c = cond (nat_lt (i + 1) t) (c + (i + 1)) (cond (nat_lt c (i + 1 - t)) c (c + t))

-- the data places of offset t and more, row by row
unfoldable pub offset_places : Parameters → ℕ → List Place
offset_places s t = each (λ i. map (λ c. at i (kept_node t i c)) (range_with_len 0 (s.k - t))) (range_with_len 0 s.k)

-- the least offset of the data that a parity node's symbols are made from: Class A needs all data
abbrev pub least_offset : Parameters → ℕ → ℕ
least_offset s m = cond (nat_lt m (s.k + s.a)) 0 (step_of s m)

-- THE LISTING of any node, in parts: a parity node's is in one part
unfoldable pub mend_entries : Parameters → ℕ → List Entry
mend_entries s m = cond (nat_lt m s.k) (entries s m) (in_part First (offset_places s (least_offset s m)))

-- THE READ SHEET of any node
unfoldable pub node_sheet : Parameters → ℕ → List Place
node_sheet s m = sheet_of (mend_entries s m)

-- THE SLOT of a place in the working memory of a mend of node m: a record for each row and data node.
-- A data place has its own. A parity place is read in a data node's mend alone, and has that of the symbol which it gives.
abbrev pub given_row : Parameters → ℕ → ℕ → ℕ → ℕ
given_row s m i c = cond (i == m) (cond (nat_lt c (first_step s)) m (wrap s (m + step_of s c))) i

unfoldable pub slot : Parameters → ℕ → ℕ → ℕ → ℕ
slot s m i c = cond (nat_lt i s.k && nat_lt c (nodes s)) (cond (nat_lt c s.k) (s.k * i + c) (s.k * given_row s m i c + m)) 0
