-- Bytes walked part by part. Assumes nothing.
use Rattle.std.specs.Prelude.{◌≡◌, ℕ, List, [], ◌∷◌, Some, None, Option}
use Rattle.std.specs.Borrow.{Bor}
use Rattle.text.specs.Parts.{parts}

-- the parts of the bytes that are left, and none where the last part is taken
abbrev pub to_come : ℕ → Option (Bor (List ℕ)) → List (List ℕ)
to_come c None = []
to_come c (Some rest) = parts c rest.now

-- taking one part off ps, where there is one
abbrev pub Reads : List (List ℕ) → Option (Bor (List ℕ)) → List (List ℕ) → Type 0
Reads before None after = (before ≡ []) × (after ≡ [])
Reads before (Some p) after = before ≡ p.now ∷ after
