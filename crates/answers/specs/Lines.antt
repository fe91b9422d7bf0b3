-- The bytes of answer lines. Assumes nothing.
use Rattle.std.specs.Prelude.{ℕ, List, [], ◌∷◌, ◌++◌, Some, None, Ok, Err, codes, decimal, Option, Result}
use Rattle.text.specs.Parts.{joined_by}
use Rattle.answers.specs.Declines.{number_of, place_of}
use Rattle.sheet.specs.declared.place.Place.{Place}
use Rattle.answers.specs.declared.decline.Decline.{Decline}
use Rattle.answers.specs.declared.reply.Accepted.{Accepted}
use Rattle.answers.specs.declared.reply.Accepted.TheVariants.{Made, Counted, Cleared, Fetched}

-- a row and a node, or two dashes
abbrev pub place_words : Option Place → List (List ℕ)
place_words None = codes "-" ∷ codes "-" ∷ []
place_words (Some p) = decimal p.row ∷ decimal p.node ∷ []

abbrev pub decline_words : Decline → List (List ℕ)
decline_words d = codes "no" ∷ decimal (number_of d) ∷ place_words (place_of d)

-- what a line is answered, accepted or declined
abbrev pub Reply : Type 0 → Type 0
Reply S = Result (Accepted S) Decline

-- the words of a reply, where `written` gives a symbol's word
abbrev pub reply_words : {S : Type 0} → (S → List ℕ) → Reply S → List (List ℕ)
reply_words written (Ok (Made nodes)) = codes "ok" ∷ decimal nodes ∷ []
reply_words written (Ok (Counted count)) = codes "ok" ∷ decimal count ∷ []
reply_words written (Ok (Cleared sum)) = codes "ok" ∷ decimal sum ∷ []
reply_words written (Ok (Fetched count symbol)) = codes "ok" ∷ decimal count ∷ written symbol ∷ []
reply_words written (Err decline) = decline_words decline

-- a reply's line: its words, parted by tabs, and a line feed
abbrev pub answer_line : {S : Type 0} → (S → List ℕ) → Reply S → List ℕ
answer_line written reply = joined_by 9 (reply_words written reply) ++ 10 ∷ []
