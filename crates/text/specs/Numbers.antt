-- Number words. Assumes nothing.
use Rattle.std.specs.Prelude.{◌≡◌, ℕ, ◌<◌, ◌≤◌, List, length, decimal, slice_index_or}
use Rattle.std.specs.Str.Parse.{AllDigits}

-- a number word has 1 to 5 digits, without a leading zero; 0 itself is allowed
pub record NumberWord (word : List ℕ) : Type 0 where
  pub some : 0 < length word
  pub short : length word ≤ 5
  pub digits : AllDigits 10 word
  pub lead : slice_index_or word 0 0 ≡ 48 → length word ≡ 1

-- the word is how n is written, and n has at most five digits
abbrev pub Spells : List ℕ → ℕ → Type 0
Spells word n = (n < 100000) × (word ≡ decimal n)
