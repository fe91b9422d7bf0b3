-- What the letters and numbers of a session line mean, or that one of them breaks rule 23. Assumes nothing.
use Rattle.std.specs.Prelude.{◌≡◌, ℕ, List, [], ◌∷◌, Ok, Err, Result, slice_index_or}
use Rattle.text.specs.Numbers.{NumberWord}
use Rattle.text.specs.Words.{Placed, place, left, texts}
use Rattle.requests.specs.declared.request.FieldKind.{FieldKind}
use Rattle.requests.specs.declared.request.StoreKind.{StoreKind}
use Rattle.lines.specs.declared.line.FirstWord as name
use Rattle.lines.specs.declared.line.FirstWord.{FirstWord}
use Rattle.lines.specs.declared.line.LineFault.{LineFault}
use Rattle.lines.specs.declared.line.LineFault.TheVariants.{Malformed}
use Rattle.lines.specs.declared.line.SessionLine.{SessionLine}
use Rattle.lines.specs.declared.line.SessionLine.TheVariants.{Make, Set, Put, Fetch, Lose, Refresh, Mend}
use Rattle.requests.specs.declared.request.Request.{Request}
use Rattle.requests.specs.Letters.{field_letter, store_letter}
use Rattle.lines.specs.Lines.{spoken}
use Rattle.requests.specs.Phrases.{phrase, Small, symbols}

-- the bytes of word k, counted from 0: the call's name is word 0
abbrev pub word : ℕ → List Placed → List ℕ
word k ws = slice_index_or (texts ws) k []

abbrev pub FieldLetter : List ℕ → Type 0
FieldLetter w = (x : FieldKind) × (w ≡ field_letter x)

abbrev pub StoreLetter : List ℕ → Type 0
StoreLetter w = (x : StoreKind) × (w ≡ store_letter x)

-- each letter is known, and each number well formed; symbol words are left to the field
abbrev pub WellFormed : FirstWord → List Placed → Type 0
WellFormed name.TheVariants.Make ws = FieldLetter (word 1 ws) × StoreLetter (word 2 ws) × NumberWord (word 3 ws) × NumberWord (word 4 ws) × NumberWord (word 5 ws) × NumberWord (word 6 ws)
WellFormed name.TheVariants.Set ws = Unit {0}
WellFormed name.TheVariants.Put ws = NumberWord (word 1 ws) × NumberWord (word 2 ws)
WellFormed name.TheVariants.Fetch ws = NumberWord (word 1 ws) × NumberWord (word 2 ws)
WellFormed name.TheVariants.Lose ws = NumberWord (word 1 ws)
WellFormed name.TheVariants.Refresh ws = NumberWord (word 1 ws)
WellFormed name.TheVariants.Mend ws = NumberWord (word 1 ws)

-- the call that a line names
abbrev pub named : SessionLine → FirstWord
named (Make field store k a tau b) = name.TheVariants.Make
named (Set ws) = name.TheVariants.Set
named (Put row node symbol) = name.TheVariants.Put
named (Fetch row node) = name.TheVariants.Fetch
named (Lose node) = name.TheVariants.Lose
named (Refresh node) = name.TheVariants.Refresh
named (Mend node) = name.TheVariants.Mend

-- the symbol words of a line
abbrev pub symbol_words : SessionLine → List Placed
symbol_words (Make field store k a tau b) = []
symbol_words (Set ws) = left ws
symbol_words (Put row node symbol) = place symbol ∷ []
symbol_words (Fetch row node) = []
symbol_words (Lose node) = []
symbol_words (Refresh node) = []
symbol_words (Mend node) = []

-- the call is said by just these words, or a word is malformed
abbrev pub Meaning : SessionLine → Result Request LineFault → Type 0
Meaning s (Ok request) = (texts (spoken s) ≡ phrase request) × Small request × (symbols request ≡ symbol_words s)
Meaning s (Err f) = (f ≡ Malformed) × (WellFormed (named s) (spoken s) → ⊥)
