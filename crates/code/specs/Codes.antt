-- What an erasure code means to an engine, and the laws that it owes. Assumes nothing.
use Rattle.std.specs.Prelude.{◌≡◌, ℕ, ◌<◌, ◌≤◌, Bool, true, false, cond, ◌&&◌, List, ◌∷◌, Some, None, Option, ◌==◌, ◌≢◌}
use Rattle.field.specs.Laws.{Operations}
use Rattle.store.specs.Meaning.{Meaning}
use Rattle.sheet.specs.declared.place.Place.{Place}
use Rattle.sheet.specs.declared.place.Entry.{Entry}
use Rattle.sheet.specs.Places.{at, listed, distinct, places_of, Agree}

-- whether a place that means this is blank
unfoldable pub is_blank : {F : Type 0} → Option F → Bool
is_blank None = true
is_blank (Some s) = false

-- which places of a store are blank
unfoldable pub blanks : {F : Type 0} → Meaning F → ℕ → ℕ → Bool
blanks m i j = is_blank (m.symbol i j)

-- the data with one symbol replaced
unfoldable pub replaced : {F : Type 0} → (ℕ → ℕ → F) → ℕ → ℕ → F → ℕ → ℕ → F
replaced d row column x i j = cond (i == row && j == column) x (d i j)

-- a listing to read, and the symbol of each row of a node from the symbols on it
pub record Recipe (F : Type 0) : Type 0 where
  pub entries : List Entry
  pub symbol : (ℕ → ℕ → F) → ℕ → F

-- what replacing one data symbol changes: the listed places, each by the difference times its weight
pub record Change (F : Type 0) : Type 0 where
  pub entries : List Entry
  pub weight : ℕ → ℕ → F

pub record CodeMeaning (F : Type 0) : Type 0 where
  -- the array: its rows, its data nodes, which come first, and all its nodes
  pub rows : ℕ
  pub columns : ℕ
  pub nodes : ℕ
  -- the least size of a field that the code can be over
  pub field_size : ℕ
  -- the symbol in a row of a node of the array over the data, which go by row and data node
  pub symbol : (ℕ → ℕ → F) → ℕ → ℕ → F
  -- the records of working memory that a fetch, and a mend of a node, needs
  pub fetch_room : ℕ
  pub mend_room : ℕ → ℕ
  -- how a node is mended, and how a blank data place is fetched, where these places are blank
  pub mend : (ℕ → ℕ → Bool) → ℕ → Recipe F
  pub fetch : (ℕ → ℕ → Bool) → ℕ → ℕ → Recipe F
  -- what a put of a data place changes
  pub put : ℕ → ℕ → Change F

-- a recipe reads some places of the array, and from them alone gives the array's symbol in a row of a node
pub record Recovers {F : Type 0} (code : CodeMeaning F) (r : Recipe F) (row node : ℕ) : Type 0 where
  pub inside : (i j : ℕ) → listed (places_of r.entries) (at i j) ≡ true → (i < code.rows) × (j < code.nodes)
  pub some : (i : ℕ) × (j : ℕ) × (listed (places_of r.entries) (at i j) ≡ true)
  pub right : (d f : ℕ → ℕ → F) → Agree f (code.symbol d) (places_of r.entries) → r.symbol f row ≡ code.symbol d row node

-- a change names each place of the array that replacing a data symbol changes, once, that data place first,
-- and turns the array over the data into the array over the data with that symbol replaced
pub record Replaces {F : Type 0} (o : Operations F) (code : CodeMeaning F) (c : Change F) (row column : ℕ) : Type 0 where
  pub inside : (i j : ℕ) → listed (places_of c.entries) (at i j) ≡ true → (i < code.rows) × (j < code.nodes)
  pub once : distinct (places_of c.entries) ≡ places_of c.entries
  pub first : (rest : List Place) × (places_of c.entries ≡ at row column ∷ rest)
  pub right : (d : ℕ → ℕ → F) (x : F) (i j : ℕ) → i < code.rows → j < code.nodes
      → code.symbol (replaced d row column x) i j
      ≡ cond (listed (places_of c.entries) (at i j)) (o.sum (code.symbol d i j) (o.product (c.weight i j) (o.difference x (d row column)))) (code.symbol d i j)

pub record CodeLaws {F : Type 0} (o : Operations F) (code : CodeMeaning F) : Type 0 where
  pub some_row : 1 ≤ code.rows
  pub some_column : 1 ≤ code.columns
  pub wide : code.columns ≤ code.nodes
  -- the data nodes hold the data
  pub systematic : (d : ℕ → ℕ → F) (i j : ℕ) → i < code.rows → j < code.columns → code.symbol d i j ≡ d i j
  pub mends : (blank : ℕ → ℕ → Bool) (node row : ℕ) → node < code.nodes → row < code.rows → Recovers code (code.mend blank node) row node
  -- a mend reads nothing of its node
  pub mends_apart : (blank : ℕ → ℕ → Bool) (node i : ℕ) → node < code.nodes → listed (places_of (code.mend blank node).entries) (at i node) ≢ true
  pub fetches : (blank : ℕ → ℕ → Bool) (row column : ℕ) → row < code.rows → column < code.columns → Recovers code (code.fetch blank row column) row column
  pub puts : (row column : ℕ) → row < code.rows → column < code.columns → Replaces o code (code.put row column) row column

-- each listed place has a slot of its own among the records of a memory
pub record Slotted (es : List Entry) (slot : ℕ → ℕ → ℕ) (room : ℕ) : Type 0 where
  pub within : (i j : ℕ) → listed (places_of es) (at i j) ≡ true → slot i j < room
  pub apart : (i j p q : ℕ) → listed (places_of es) (at i j) ≡ true → listed (places_of es) (at p q) ≡ true → slot i j ≡ slot p q → (i ≡ p) × (j ≡ q)
