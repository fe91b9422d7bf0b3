-- The words that say a call. Assumes nothing.
use Rattle.std.specs.Prelude.{ℕ, ◌<◌, List, [], ◌∷◌, codes, decimal}
use Rattle.text.specs.Words.{Placed, place, left, texts}
use Rattle.requests.specs.declared.request.Request.{Request}
use Rattle.requests.specs.declared.request.Request.TheVariants.{Make, Set, Put, Fetch, Lose, Refresh, Mend}
use Rattle.requests.specs.Letters.{field_letter, store_letter}

-- the words of the line that says a call
abbrev pub phrase : Request → List (List ℕ)
phrase (Make field store k a tau b) = codes "make" ∷ field_letter field ∷ store_letter store ∷ decimal k ∷ decimal a ∷ decimal tau ∷ decimal b ∷ []
phrase (Set symbols) = codes "set" ∷ texts (left symbols)
phrase (Put row node symbol) = codes "put" ∷ decimal row ∷ decimal node ∷ (place symbol).bytes ∷ []
phrase (Fetch row node) = codes "fetch" ∷ decimal row ∷ decimal node ∷ []
phrase (Lose node) = codes "lose" ∷ decimal node ∷ []
phrase (Refresh node) = codes "refresh" ∷ decimal node ∷ []
phrase (Mend node) = codes "mend" ∷ decimal node ∷ []

-- each number has at most five digits
abbrev pub Small : Request → Type 0
Small (Make field store k a tau b) = (k < 100000) × (a < 100000) × (tau < 100000) × (b < 100000)
Small (Set symbols) = Unit {0}
Small (Put row node symbol) = (row < 100000) × (node < 100000)
Small (Fetch row node) = (row < 100000) × (node < 100000)
Small (Lose node) = node < 100000
Small (Refresh node) = node < 100000
Small (Mend node) = node < 100000

-- the symbol words of a call, with their columns
abbrev pub symbols : Request → List Placed
symbols (Make field store k a tau b) = []
symbols (Set ws) = left ws
symbols (Put row node symbol) = place symbol ∷ []
symbols (Fetch row node) = []
symbols (Lose node) = []
symbols (Refresh node) = []
symbols (Mend node) = []
