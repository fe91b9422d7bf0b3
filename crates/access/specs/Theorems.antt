-- What is proved of fetch and put. Assumes nothing.
use Rattle.std.specs.Prelude.{◌≡◌, ℕ, ◌+◌, ◌*◌, ◌<◌, ◌≤◌, true, cond, List, ◌∷◌, length}
use Rattle.field.specs.Laws.{Operations}
use Rattle.sheet.specs.declared.place.Place.{Place}
use Rattle.sheet.specs.Places.{at, listed, distinct, places_of, Agree}
use Rattle.code.specs.Codes.{Slotted, replaced}
use Rattle.array.specs.declared.parameters.Parameters.{Parameters}
use Rattle.array.specs.Layout.{nodes, offset}
use Rattle.array.specs.Symbols.{array}
use Rattle.access.specs.Fetch.{fetch_entries, fetch_size, fetch_symbol, fetch_slot}
use Rattle.access.specs.Put.{put_entries, put_size, put_weight}

-- FETCH: it reads some places of the array, each once and never the one that is sought, as many as stated, each with a record
-- of its own, and from them alone gives the symbol
pub record Fetched {F : Type 0} (o : Operations F) (symbol : ℕ → F) (p : Parameters) (i j : ℕ) : Type 0 where
  pub inside : (r m : ℕ) → listed (places_of (fetch_entries p i j)) (at r m) ≡ true → (r < p.k) × (m < nodes p)
  pub some : (r : ℕ) × (m : ℕ) × (listed (places_of (fetch_entries p i j)) (at r m) ≡ true)
  pub apart : listed (places_of (fetch_entries p i j)) (at i j) ≡ true → ⊥
  pub once : distinct (places_of (fetch_entries p i j)) ≡ places_of (fetch_entries p i j)
  pub size : length (fetch_entries p i j) ≡ fetch_size p (offset p i j)
  pub slots : Slotted (fetch_entries p i j) (fetch_slot p i j) (p.k * p.k)
  pub right : (d f : ℕ → ℕ → F) → Agree f (array o symbol p d) (places_of (fetch_entries p i j)) → fetch_symbol o symbol p f i j ≡ d i j

abbrev pub Fetches : {F : Type 0} → Operations F → (ℕ → F) → ℕ → Type 0
Fetches o symbol size = (p : Parameters) → p.k + p.a ≤ size → (i j : ℕ) → i < p.k → j < p.k → Fetched o symbol p i j

-- PUT: it names places of the array, each once, the data place first, as many as stated, and adding to each the difference
-- times its weight turns the array over the data into the array over the data with that symbol replaced
pub record Put {F : Type 0} (o : Operations F) (symbol : ℕ → F) (p : Parameters) (i j : ℕ) : Type 0 where
  pub inside : (r m : ℕ) → listed (places_of (put_entries p i j)) (at r m) ≡ true → (r < p.k) × (m < nodes p)
  pub once : distinct (places_of (put_entries p i j)) ≡ places_of (put_entries p i j)
  pub first : (rest : List Place) × (places_of (put_entries p i j) ≡ at i j ∷ rest)
  pub size : length (put_entries p i j) ≡ put_size p (offset p i j)
  pub right : (d : ℕ → ℕ → F) (x : F) (r m : ℕ) → r < p.k → m < nodes p
      → array o symbol p (replaced d i j x) r m
      ≡ cond (listed (places_of (put_entries p i j)) (at r m)) (o.sum (array o symbol p d r m) (o.product (put_weight o symbol p i j r m) (o.difference x (d i j)))) (array o symbol p d r m)

abbrev pub Puts : {F : Type 0} → Operations F → (ℕ → F) → Type 0
Puts o symbol = (p : Parameters) (i j : ℕ) → i < p.k → j < p.k → Put o symbol p i j
