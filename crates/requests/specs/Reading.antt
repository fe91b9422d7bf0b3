-- What a session line says, or the first rule that it breaks. Assumes nothing.
use Rattle.std.specs.Prelude.{◌≡◌, ℕ, ◌-◌, ◌<◌, List, length, drop, Ok, Err, Result}
use Rattle.text.specs.Words.{Placed, words, texts}
use Rattle.requests.specs.declared.request.Request.{Request}
use Rattle.lines.specs.declared.line.FirstWord.{FirstWord}
use Rattle.lines.specs.declared.line.LineFault.{LineFault}
use Rattle.lines.specs.declared.line.LineFault.TheVariants.{TooLong, UnknownCall, WordCount, Malformed}
use Rattle.lines.specs.Lines.{Short, Names, Counts}
use Rattle.requests.specs.Meaning.{WellFormed}
use Rattle.requests.specs.Phrases.{phrase, Small, symbols}

-- the words ws say a request: they are its phrase, with numbers of at most five digits, and the last of them are its symbol words
pub record Says (request : Request) (ws : List Placed) : Type 0 where
  pub words : texts ws ≡ phrase request
  pub small : Small request
  pub symbols : symbols request ≡ drop (length ws - length (symbols request)) ws

-- 20 a line over 5,000 bytes; 21 a first word that names no call; 22 a wrong number of words; 23 a letter unknown or a number malformed
abbrev pub Read : List ℕ → Result Request LineFault → Type 0
Read line (Ok request) = Short line × Says request (words line)
Read line (Err TooLong) = 5000 < length line
Read line (Err UnknownCall) = Short line × ((n : FirstWord) → Names line n → ⊥)
Read line (Err WordCount) = Short line × ((n : FirstWord) × Names line n × (Counts line n → ⊥))
Read line (Err Malformed) = Short line × ((n : FirstWord) × Names line n × Counts line n × (WellFormed n (words line) → ⊥))
