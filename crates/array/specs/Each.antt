-- Lists one after another. Assumes nothing.
use Rattle.std.specs.Prelude.{ℕ, List, [], ◌∷◌, ◌++◌}

-- f's lists one after another, for each number of a list
unfoldable pub each : {A : Type 0} → (ℕ → List A) → List ℕ → List A
each f [] = []
each f (n ∷ ns) = f n ++ each f ns
