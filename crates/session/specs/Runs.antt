-- Lines answered one after another. Assumes nothing.
use Rattle.std.specs.Prelude.{◌≡◌, ℕ, List, [], ◌∷◌, ◌++◌}

-- some bytes are added, of which P says what they are
abbrev pub Adds : List ℕ → List ℕ → (List ℕ → Type 0) → Type 0
Adds before after P = (bytes : List ℕ) × P bytes × (after ≡ before ++ bytes)

-- from state s, the lines are answered one by one, in their order: that leaves t, and the answers together are bytes
abbrev pub Runs : {S : Type 0} → (S → List ℕ → S → List ℕ → Type 0) → List (List ℕ) → S → S → List ℕ → Type 0
Runs answers [] s t bytes = (s ≡ t) × (bytes ≡ [])
Runs {S} answers (l ∷ ls) s t bytes = (u : S) × (x : List ℕ) × (y : List ℕ) × answers s l u x × Runs answers ls u t y × (bytes ≡ x ++ y)
