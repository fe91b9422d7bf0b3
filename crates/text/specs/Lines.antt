-- The lines of an input. Assumes nothing.
use Rattle.std.specs.Prelude.{ℕ, List, [], ◌∷◌}
use Rattle.text.specs.declared.lines.Lines.{Lines}
use Rattle.text.specs.Parts.{parts, front, final}
use Rattle.text.specs.Walk.{to_come}

-- without the last part where that is empty
abbrev pub ended : List (List ℕ) → List (List ℕ)
ended [] = []
ended ([] ∷ []) = []
ended ((b ∷ p) ∷ []) = (b ∷ p) ∷ []
ended (p ∷ q ∷ ps) = p ∷ ended (q ∷ ps)

-- the lines of an input: a line feed ends each, and where nothing follows the last there is no further line
abbrev pub lines : List ℕ → List (List ℕ)
lines input = ended (parts 10 input)

-- the lines that a line feed has ended, and what follows the last line feed
abbrev pub closed_lines : List ℕ → List (List ℕ)
closed_lines input = front (parts 10 input)

abbrev pub open_line : List ℕ → List ℕ
open_line input = final (parts 10 input)

-- the lines that are still to come
abbrev pub todo : Lines → List (List ℕ)
todo l = ended (to_come 10 l.parts.rest)
