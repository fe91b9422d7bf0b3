-- What a session line says in its words, or the first of the rules 20, 21 and 22 that it breaks. Assumes nothing.
use Rattle.std.specs.Prelude.{◌≡◌, ℕ, ◌-◌, ◌<◌, ◌≤◌, List, [], ◌∷◌, length, Some, None, Ok, Err, codes, Option, Result}
use Rattle.text.specs.Words.{Placed, words, place, left}
use Rattle.lines.specs.declared.line.FirstWord.{FirstWord}
use Rattle.lines.specs.Names.{spelled, Fits}
use Rattle.lines.specs.declared.line.SessionLine.{SessionLine}
use Rattle.lines.specs.declared.line.SessionLine.TheVariants.{Make, Set, Put, Fetch, Lose, Refresh, Mend}
use Rattle.lines.specs.declared.line.LineFault.{LineFault}
use Rattle.lines.specs.declared.line.LineFault.TheVariants.{TooLong, UnknownCall, WordCount, Malformed}

-- the first word of a line stands at column 1
abbrev pub call : List ℕ → Placed
call name = record { bytes = name; column = 1 }

-- the words of the line that says s
abbrev pub spoken : SessionLine → List Placed
spoken (Make field store k a tau b) = call (codes "make") ∷ place field ∷ place store ∷ place k ∷ place a ∷ place tau ∷ place b ∷ []
spoken (Set symbols) = call (codes "set") ∷ left symbols
spoken (Put row node symbol) = call (codes "put") ∷ place row ∷ place node ∷ place symbol ∷ []
spoken (Fetch row node) = call (codes "fetch") ∷ place row ∷ place node ∷ []
spoken (Lose node) = call (codes "lose") ∷ place node ∷ []
spoken (Refresh node) = call (codes "refresh") ∷ place node ∷ []
spoken (Mend node) = call (codes "mend") ∷ place node ∷ []

-- set has one symbol word or more
abbrev pub Whole : SessionLine → Type 0
Whole (Set symbols) = 0 < length (left symbols)
Whole (Make field store k a tau b) = Unit {0}
Whole (Put row node symbol) = Unit {0}
Whole (Fetch row node) = Unit {0}
Whole (Lose node) = Unit {0}
Whole (Refresh node) = Unit {0}
Whole (Mend node) = Unit {0}

-- the line with this first word and these words after it, where they are as many as it takes
abbrev pub LineOf : FirstWord → List Placed → Option SessionLine → Type 0
LineOf n ws None = Fits n (length ws) → ⊥
LineOf n ws (Some s) = (spoken s ≡ call (spelled n) ∷ ws) × Whole s

-- a line has at most 5,000 bytes, its line feed not counted
abbrev pub Short : List ℕ → Type 0
Short line = length line ≤ 5000

abbrev pub first_word : List Placed → List ℕ
first_word [] = []
first_word (w ∷ ws) = w.bytes

-- the first word of a line names a call
abbrev pub Names : List ℕ → FirstWord → Type 0
Names line n = first_word (words line) ≡ spelled n

-- as many words follow the first as the call takes
abbrev pub Counts : List ℕ → FirstWord → Type 0
Counts line n = Fits n (length (words line) - 1)

abbrev pub Parsed : List ℕ → Result SessionLine LineFault → Type 0
Parsed line (Ok s) = Short line × (words line ≡ spoken s) × Whole s
Parsed line (Err TooLong) = 5000 < length line
Parsed line (Err UnknownCall) = Short line × ((n : FirstWord) → Names line n → ⊥)
Parsed line (Err WordCount) = Short line × ((n : FirstWord) × Names line n × (Counts line n → ⊥))
Parsed line (Err Malformed) = ⊥
