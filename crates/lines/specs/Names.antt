-- The first words of session lines, and how many words follow each. Assumes nothing.
use Rattle.std.specs.Prelude.{◌≡◌, ℕ, ◌≤◌, List, codes}
use Rattle.lines.specs.declared.line.FirstWord.{FirstWord}
use Rattle.lines.specs.declared.line.FirstWord.TheVariants.{Make, Set, Put, Fetch, Lose, Refresh, Mend}

-- the first word of each call's line
abbrev pub spelled : FirstWord → List ℕ
spelled Make = codes "make"
spelled Set = codes "set"
spelled Put = codes "put"
spelled Fetch = codes "fetch"
spelled Lose = codes "lose"
spelled Refresh = codes "refresh"
spelled Mend = codes "mend"

-- how many words may follow it
abbrev pub Fits : FirstWord → ℕ → Type 0
Fits Make n = n ≡ 6
Fits Set n = 1 ≤ n
Fits Put n = n ≡ 3
Fits Fetch n = n ≡ 2
Fits Lose n = n ≡ 1
Fits Refresh n = n ≡ 1
Fits Mend n = n ≡ 1
