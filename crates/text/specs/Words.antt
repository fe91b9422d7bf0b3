-- The words of a line, with their columns. Assumes nothing.
use Rattle.std.specs.Prelude.{◌≡◌, ℕ, zero, suc, ◌+◌, List, [], ◌∷◌, map, length, Some, None, Option}
use Rattle.text.specs.declared.words.Word.{Word}
use Rattle.text.specs.declared.words.Words.{Words}
use Rattle.text.specs.Parts.{parts}
use Rattle.text.specs.Walk.{to_come}

-- a word: its bytes, and the column at which it begins
pub record Placed : Type 0 where
  pub bytes : List ℕ
  pub column : ℕ

-- words that begin at a column, with one byte between each two
abbrev pub placed : ℕ → List (List ℕ) → List Placed
placed column [] = []
placed column (w ∷ ws) = record { bytes = w; column = column } ∷ placed (column + length w + 1) ws

-- the words of a line: each tab parts two, and columns are counted in bytes from 1
abbrev pub words : List ℕ → List Placed
words line = placed 1 (parts 9 line)

abbrev pub texts : List Placed → List (List ℕ)
texts ws = map (λ w. w.bytes) ws

-- the column of word k, counted from 0
abbrev pub column_of : ℕ → List Placed → ℕ
column_of k [] = 0
column_of zero (w ∷ ws) = w.column
column_of (suc k) (w ∷ ws) = column_of k ws

-- what a word of the code stands for
abbrev pub place : Word → Placed
place w = record { bytes = w.bytes.now; column = w.column }

-- the words that are still to come
abbrev pub left : Words → List Placed
left ws = placed ws.column (to_come 9 ws.parts.rest)

-- taking one word off ws, where there is one
abbrev pub Takes : List Placed → Option Word → List Placed → Type 0
Takes before None after = (before ≡ []) × (after ≡ [])
Takes before (Some w) after = before ≡ place w ∷ after
