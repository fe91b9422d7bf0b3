-- Input that comes in chunks. Assumes nothing.
use Rattle.std.specs.Prelude.{◌≡◌, ℕ, List, [], ◌∷◌, ◌++◌, map, take}
use Rattle.std.specs.List.{flat_map}
use Rattle.text.specs.Lines.{ended, lines, closed_lines, open_line}
use Rattle.session.specs.Runs.{Runs}

-- what is kept of a line: its first 5,001 bytes, by which one sees that it is over 5,000
abbrev pub kept : List ℕ → List ℕ
kept line = take 5001 line

-- with a chunk after the held bytes, the lines that end there are answered, and the start of the last is held
pub record Fed {S : Type 0} (answers : S → List ℕ → S → List ℕ → Type 0) (held chunk : List ℕ) (s : S) (held' : List ℕ) (t : S) (bytes : List ℕ) : Type 0 where
  pub runs : Runs answers (map kept (closed_lines (held ++ chunk))) s t bytes
  pub holds : held' ≡ kept (open_line (held ++ chunk))

-- chunks fed one after another
abbrev pub Feeds : {S : Type 0} → (S → List ℕ → S → List ℕ → Type 0) → List (List ℕ) → List ℕ → S → List ℕ → S → List ℕ → Type 0
Feeds answers [] held s held' t bytes = (held ≡ held') × (s ≡ t) × (bytes ≡ [])
Feeds {S} answers (c ∷ cs) held s held' t bytes = (h : List ℕ) × (u : S) × (x : List ℕ) × (y : List ℕ) × Fed answers held c s h u x × Feeds answers cs h u held' t y × (bytes ≡ x ++ y)

-- at the end of the input the last line is answered, where no line feed ended it; and whatever chunks led here, the lines of all of them together have been answered
pub record Finished {S : Type 0} (answers : S → List ℕ → S → List ℕ → Type 0) (held : List ℕ) (s t : S) (bytes : List ℕ) : Type 0 where
  pub last : Runs answers (ended (held ∷ [])) s t bytes
  pub whole : (chunks : List (List ℕ)) (first : S) (before : List ℕ) → Feeds answers chunks [] first held s before → Runs answers (map kept (lines (flat_map (λ c. c) chunks))) first t (before ++ bytes)
