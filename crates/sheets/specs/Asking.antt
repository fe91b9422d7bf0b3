-- What a line asks for: the parameters of a code and one of its nodes, or why there is no such. Assumes nothing.
use Rattle.std.specs.Prelude.{◌≡◌, ℕ, ◌+◌, ◌≤◌, List, [], ◌∷◌, length, Some, None, Ok, Err, Result}
use Rattle.text.specs.Numbers.{Spells}
use Rattle.text.specs.Words.{Placed, words, texts}
use Rattle.array.specs.Checks.{declined, fault_number}
use Rattle.mending.specs.declared.node_sheet.NodeSheet.{NodeSheet}
use Rattle.sheets.specs.declared.asking.Asked.{Asked}
use Rattle.sheets.specs.declared.asking.AskFault.{AskFault}
use Rattle.sheets.specs.declared.asking.AskFault.TheVariants.{Code, Node, Words, Number}

-- the words write the numbers, each one
abbrev pub SpellsAll : List (List ℕ) → List ℕ → Type 0
SpellsAll [] [] = Unit {0}
SpellsAll [] (n ∷ ns) = ⊥
SpellsAll (w ∷ ws) [] = ⊥
SpellsAll (w ∷ ws) (n ∷ ns) = Spells w n × SpellsAll ws ns

-- the words of a line write k, a, τ, b and the node
abbrev pub Writes : List Placed → Asked → Type 0
Writes ws q = SpellsAll (texts ws) (q.proposed.k ∷ q.proposed.a ∷ q.proposed.tau ∷ q.proposed.b ∷ q.node ∷ [])

-- what the words of a line ask for
abbrev pub Read : List Placed → Result Asked AskFault → Type 0
Read ws (Ok q) = Writes ws q
Read ws (Err Words) = length ws ≡ 5 → ⊥
Read ws (Err Number) = (length ws ≡ 5) × ((q : Asked) → Writes ws q → ⊥)
Read ws (Err (Code f)) = ⊥
Read ws (Err Node) = ⊥

-- and what is answered
abbrev pub Answered : List ℕ → Result NodeSheet AskFault → Type 0
Answered line (Ok s) =
    (q : Asked) × Writes (words line) q × (declined q.proposed.k q.proposed.a q.proposed.tau q.proposed.b ≡ None)
    × (s.parameters.k ≡ q.proposed.k) × (s.parameters.a ≡ q.proposed.a) × (s.parameters.tau ≡ q.proposed.tau) × (s.parameters.b ≡ q.proposed.b) × (s.node ≡ q.node)
Answered line (Err Words) = length (words line) ≡ 5 → ⊥
Answered line (Err Number) = (length (words line) ≡ 5) × ((q : Asked) → Writes (words line) q → ⊥)
Answered line (Err (Code f)) = (q : Asked) × Writes (words line) q × (declined q.proposed.k q.proposed.a q.proposed.tau q.proposed.b ≡ Some f)
Answered line (Err Node) = (q : Asked) × Writes (words line) q × (declined q.proposed.k q.proposed.a q.proposed.tau q.proposed.b ≡ None) × (q.proposed.k + q.proposed.a + q.proposed.b ≤ q.node)

-- the numbers of the refusals
abbrev pub ask_number : AskFault → ℕ
ask_number (Code f) = fault_number f
ask_number Node = 17
ask_number Words = 22
ask_number Number = 23
