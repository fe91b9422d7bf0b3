-- Histories of calls, the relation "this history leads here", and the ledger. Assumes nothing.
use Rattle.std.specs.Prelude.{◌≡◌, ℕ, ◌+◌, ◌*◌, ◌<◌, cond, ◌&&◌, List, [], ◌∷◌, Some, None, Ok, Err, Option, Result, ◌==◌, nat_lt, slice_index_or}
use Rattle.field.specs.Laws.{Operations}
use Rattle.store.specs.Meaning.{Meaning}
use Rattle.code.specs.Codes.{CodeMeaning}
use Rattle.sheet.specs.declared.place.Record.{Record}
use Rattle.calls.specs.declared.call.Call.{Call}
use Rattle.calls.specs.declared.call.Call.TheVariants.{Set, Put, Fetch, Lose, Refresh, Mend}
use Rattle.calls.specs.declared.call.Answer.{Answer}
use Rattle.calls.specs.declared.call.Answer.TheVariants.{Counted, Fetched, Cleared}
use Rattle.calls.specs.declared.call.Found.{Found}
use Rattle.calls.specs.declared.call.CallFault.{CallFault}
use Rattle.calls.specs.Reading.{or_else}
use Rattle.calls.specs.Calls.{Made, SetDone, PutDone, FetchDone, LoseDone, RefreshDone, MendDone, after_memory}

-- what was asked
pub data Ask (F : Type 0) : Type 0 where
  set : List F → Ask F
  put : ℕ → ℕ → F → Ask F
  fetch : ℕ → ℕ → Ask F
  lose : ℕ → Ask F
  refresh : ℕ → Ask F
  mend : ℕ → Ask F

abbrev pub asked : {F : Type 0} → Call F → Ask F
asked (Set xs) = set xs.now
asked (Put row column x) = put row column x
asked (Fetch row column) = fetch row column
asked (Lose node) = lose node
asked (Refresh node) = refresh node
asked (Mend node) = mend node

-- an event of a history: a call, the length of its working memory, and its answer
pub record Event (F : Type 0) : Type 0 where
  pub ask : Ask F
  pub room : ℕ
  pub answer : Result (Answer F) CallFault

-- the answer of one call as an answer of any call
unfoldable pub mapped : {A B : Type 0} → (A → B) → Result A CallFault → Result B CallFault
mapped f (Ok a) = Ok (f a)
mapped f (Err e) = Err e

unfoldable pub found_answer : {F : Type 0} → Found F → Answer F
found_answer f = Fetched f.count f.symbol

-- ONE CALL, by its contract: asked with n records of memory at a store that means m, it answers r and leaves m'
unfoldable pub Step : {F : Type 0} → Operations F → ℕ → CodeMeaning F → Ask F → ℕ → Result (Answer F) CallFault → Meaning F → Meaning F → Type 0
Step o size code (set xs) n r m m' = (q : Result ℕ CallFault) × (r ≡ mapped Counted q) × SetDone o size code m xs q m'
Step o size code (put row column x) n r m m' = (q : Result ℕ CallFault) × (r ≡ mapped Counted q) × PutDone o size code m row column x q m'
Step {F} o size code (fetch row column) n r m m' = (q : Result (Found F) CallFault) × (r ≡ mapped found_answer q) × FetchDone o size code m row column n q m'
Step o size code (lose node) n r m m' = (q : Result ℕ CallFault) × (r ≡ mapped Cleared q) × LoseDone size code m node q m'
Step o size code (refresh node) n r m m' = (q : Result ℕ CallFault) × (r ≡ mapped Cleared q) × RefreshDone size code m node q m'
Step o size code (mend node) n r m m' = (q : Result ℕ CallFault) × (r ≡ mapped Counted q) × MendDone o size code m node n q m'

-- THE HISTORY h, the latest call first, leads from an accepted making on a store that meant m₀ to a store that means m
unfoldable pub Leads : {F : Type 0} → Operations F → ℕ → CodeMeaning F → Meaning F → List (Event F) → Meaning F → Type 0
Leads o size code m₀ [] m = Made size code m₀ m
Leads {F} o size code m₀ (e ∷ h) m = (m₁ : Meaning F) × Leads o size code m₀ h m₁ × Step o size code e.ask e.room e.answer m₁ m

-- THE LEDGER, from the calls and their answers alone
-- its symbols, for each data place one or none: none after making; an accepted set enters all its symbols row by row, an accepted put its one
unfoldable pub entered : {F : Type 0} → F → CodeMeaning F → Ask F → Result (Answer F) CallFault → (ℕ → ℕ → Option F) → ℕ → ℕ → Option F
entered z code (set xs) (Ok a) old = λ i j. cond (nat_lt i code.rows && nat_lt j code.columns) (Some (slice_index_or xs (i * code.columns + j) z)) None
entered z code (set xs) (Err e) old = old
entered z code (put row column x) (Ok a) old = λ i j. cond (i == row && j == column) (Some x) (old i j)
entered z code (put row column x) (Err e) old = old
entered z code (fetch row column) r old = old
entered z code (lose node) r old = old
entered z code (refresh node) r old = old
entered z code (mend node) r old = old

unfoldable pub ledger : {F : Type 0} → F → CodeMeaning F → List (Event F) → ℕ → ℕ → Option F
ledger z code [] = λ i j. None
ledger z code (e ∷ h) = entered z code e.ask e.answer (ledger z code h)

-- the ledger has no symbol; it has one for each data place
unfoldable pub Empty : {F : Type 0} → (ℕ → ℕ → Option F) → Type 0
Empty l = (i j : ℕ) → l i j ≡ None

unfoldable pub Full : {F : Type 0} → CodeMeaning F → (ℕ → ℕ → Option F) → Type 0
Full {F} code l = (i j : ℕ) → i < code.rows → j < code.columns → (s : F) × (l i j ≡ Some s)

-- the data that a full ledger has
unfoldable pub known : {F : Type 0} → F → (ℕ → ℕ → Option F) → ℕ → ℕ → F
known z l i j = or_else z (l i j)

-- its first sum: the counts of accepted set, put, fetch and mend
unfoldable pub count_of : {F : Type 0} → Result (Answer F) CallFault → ℕ
count_of (Ok (Counted n)) = n
count_of (Ok (Fetched n s)) = n
count_of (Ok (Cleared n)) = 0
count_of (Err e) = 0

unfoldable pub counts : {F : Type 0} → List (Event F) → ℕ
counts [] = 0
counts (e ∷ h) = count_of e.answer + counts h

-- its second sum: what accepted lose and refresh answered
unfoldable pub cleared_of : {F : Type 0} → Result (Answer F) CallFault → ℕ
cleared_of (Ok (Counted n)) = 0
cleared_of (Ok (Fetched n s)) = 0
cleared_of (Ok (Cleared n)) = n
cleared_of (Err e) = 0

unfoldable pub clearings : {F : Type 0} → List (Event F) → ℕ
clearings [] = 0
clearings (e ∷ h) = cleared_of e.answer + clearings h

-- working memory after any call: only fetch and mend write it
unfoldable pub served_memory : {F : Type 0} → F → Ask F → Result (Answer F) CallFault → List (Record F) → List (Record F)
served_memory z (set xs) r memory = memory
served_memory z (put row column x) r memory = memory
served_memory z (fetch row column) r memory = after_memory z r memory
served_memory z (lose node) r memory = memory
served_memory z (refresh node) r memory = memory
served_memory z (mend node) r memory = after_memory z r memory
