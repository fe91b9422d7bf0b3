-- Why the lines of an input and the words of a line are the only ones: joined again they are the bytes that were cut, no piece has the separator, and no other pieces do both. Assumes nothing.
use Rattle.std.specs.Prelude.{◌≡◌, ℕ, ◌+◌, ◌<◌, ◌⊎◌, List, [], ◌∷◌, ◌++◌, length, take}
use Rattle.std.specs.List.{flat_map, AllByRecursion}
use Rattle.text.specs.Lines.{lines}
use Rattle.text.specs.Parts.{Free, joined_by, final}
use Rattle.text.specs.Words.{words, texts, column_of}

-- lines, each closed by a line feed
abbrev pub closed : List (List ℕ) → List ℕ
closed ls = flat_map (λ l. l ++ 10 ∷ []) ls

-- ls are lines of input: no line has a line feed, and closed they are the input, of which the last line feed may be missing where the last line is not empty
abbrev pub Lined : List ℕ → List (List ℕ) → Type 0
Lined input ls = AllByRecursion (Free 10) ls × ((closed ls ≡ input) ⊎ ((closed ls ≡ input ++ 10 ∷ []) × (0 < length (final ls))))

pub record LineCut (input : List ℕ) : Type 0 where
  pub cuts : Lined input (lines input)
  pub only : (ls : List (List ℕ)) → Lined input ls → lines input ≡ ls

-- ws are the words of a line: one or more, no word has a tab, and with a tab between each two they are the line
abbrev pub Worded : List ℕ → List (List ℕ) → Type 0
Worded line ws = (0 < length ws) × AllByRecursion (Free 9) ws × (joined_by 9 ws ≡ line)

-- a word's column is one more than the number of bytes before it: those of the words before it, each with its tab
pub record WordCut (line : List ℕ) : Type 0 where
  pub cuts : Worded line (texts (words line))
  pub only : (ws : List (List ℕ)) → Worded line ws → texts (words line) ≡ ws
  pub columns : (k : ℕ) → k < length (words line) → column_of k (words line) ≡ 1 + length (flat_map (λ w. w ++ 9 ∷ []) (take k (texts (words line))))
