-- Bytes parted at a separator. Assumes nothing.
use Rattle.std.specs.Prelude.{ℕ, ◌<◌, cond, List, [], ◌∷◌, ◌++◌, length, ◌==◌, ◌≢◌, slice_index}

-- none of the first n bytes is c
abbrev pub Lacks : ℕ → List ℕ → ℕ → Type 0
Lacks c bs n = (k : ℕ) → k < n → slice_index bs k ≢ c

-- no byte is c
abbrev pub Free : ℕ → List ℕ → Type 0
Free c bs = Lacks c bs (length bs)

-- b before the first part
abbrev pub onto : ℕ → List (List ℕ) → List (List ℕ)
onto b [] = (b ∷ []) ∷ []
onto b (p ∷ ps) = (b ∷ p) ∷ ps

-- the parts of bs, of which each byte c parts two; a part may be empty
abbrev pub parts : ℕ → List ℕ → List (List ℕ)
parts c [] = [] ∷ []
parts c (b ∷ bs) = cond (b == c) ([] ∷ parts c bs) (onto b (parts c bs))

-- parts with c between each two
abbrev pub joined_by : ℕ → List (List ℕ) → List ℕ
joined_by c [] = []
joined_by c (p ∷ []) = p
joined_by c (p ∷ q ∷ ps) = p ++ c ∷ joined_by c (q ∷ ps)

-- all parts but the last, and the last
abbrev pub front : List (List ℕ) → List (List ℕ)
front [] = []
front (p ∷ []) = []
front (p ∷ q ∷ ps) = p ∷ front (q ∷ ps)

abbrev pub final : List (List ℕ) → List ℕ
final [] = []
final (p ∷ []) = p
final (p ∷ q ∷ ps) = final (q ∷ ps)
