-- What holds after each call of every history. Assumes nothing.
use Rattle.std.specs.Prelude.{◌≡◌, ℕ, ◌+◌, ◌<◌, ◌≤◌, true, false, cond, List, [], ◌∷◌, length, Some, None, Ok, Err, Result, ◌≢◌}
use Rattle.field.specs.Laws.{Operations}
use Rattle.store.specs.Meaning.{Meaning, total}
use Rattle.sheet.specs.declared.place.Place.{Place}
use Rattle.sheet.specs.Places.{at, listed}
use Rattle.code.specs.Codes.{CodeMeaning, CodeLaws}
use Rattle.calls.specs.declared.call.Answer.{Answer}
use Rattle.calls.specs.declared.call.Answer.TheVariants.{Counted, Fetched}
use Rattle.calls.specs.declared.call.CallFault.{CallFault}
use Rattle.calls.specs.declared.call.Reason.TheVariants.{SmallField, SmallStore}
use Rattle.calls.specs.Calls.{lost, mend_sheet, node_meters}
use Rattle.calls.specs.History.{Ask, set, put, fetch, lose, refresh, mend, Event, Step, Leads, ledger, Empty, Full, known, counts, clearings}

-- the meters of all rows of the code's nodes
unfoldable pub all_meters : {F : Type 0} → CodeMeaning F → Meaning F → ℕ
all_meters code m = total (λ j. node_meters m j) code.nodes

-- a place holds a symbol
unfoldable pub Held : {F : Type 0} → Meaning F → ℕ → ℕ → Type 0
Held {F} m i j = (s : F) × (m.symbol i j ≡ Some s)

-- AFTER EVERY HISTORY h, which led from a making on a store that meant m₀ to one that means m
pub record Claims {F : Type 0} (o : Operations F) (code : CodeMeaning F) (m₀ : Meaning F) (h : List (Event F)) (m : Meaning F) : Type 0 where
  -- rows, nodes and life of the store stay
  pub sizes : (m.rows ≡ m₀.rows) × (m.nodes ≡ m₀.nodes) × (m.life ≡ m₀.life)
  -- every held place of the array holds the symbol that the array over the ledger's symbols has there
  pub right : (i j : ℕ) (s : F) → i < code.rows → j < code.nodes → m.symbol i j ≡ Some s
      → Full code (ledger o.zero code h) × (s ≡ code.symbol (known o.zero (ledger o.zero code h)) i j)
  -- while the ledger has no symbol, no place of the code's nodes is held
  pub none : Empty (ledger o.zero code h) → (i j : ℕ) → j < code.nodes → m.symbol i j ≡ None
  -- rows past the array's stay blank with meters 0
  pub spare_rows : (i j : ℕ) → code.rows ≤ i → j < code.nodes → (m.symbol i j ≡ None) × (m.meter i j ≡ 0)
  -- nodes past the code's stay as they were
  pub spare_nodes : (i j : ℕ) → code.nodes ≤ j → (m.symbol i j ≡ m₀.symbol i j) × (m.meter i j ≡ m₀.meter i j)
  -- the sum of counts is the sum of clearings and the meters of all rows of the code's nodes
  pub balance : counts h ≡ clearings h + all_meters code m

-- a node that alone is lost
pub record AloneLost {F : Type 0} (code : CodeMeaning F) (m : Meaning F) (node : ℕ) : Type 0 where
  pub within : node < code.nodes
  pub blank : lost code m node ≡ true
  pub others : (j : ℕ) → j < code.nodes → (j ≢ node) → lost code m j ≡ false

-- no place of a list is worn
unfoldable pub Unworn : {F : Type 0} → Meaning F → List Place → Type 0
Unworn m ps = (i j : ℕ) → listed ps (at i j) ≡ true → m.meter i j ≢ m.life

-- OF A MEND of a node with n records of memory, which answered r and led from m to m'
pub record MendClaims {F : Type 0} (code : CodeMeaning F) (node n : ℕ) (r : Result (Answer F) CallFault) (m m' : Meaning F) : Type 0 where
  -- it is accepted where its node alone is lost, no place of its sheet is worn and the memory is large enough
  pub accepted : AloneLost code m node → Unworn m (mend_sheet code m node) → code.mend_room node ≤ n → (a : Answer F) × (r ≡ Ok a)
  -- accepted, it leaves no place of its node blank
  pub whole : (a : Answer F) → r ≡ Ok a → (i : ℕ) → i < code.rows → Held m' i node
  -- it answers the length of its read sheet
  pub count : (a : Answer F) → r ≡ Ok a → a ≡ Counted (length (mend_sheet code m node))
  -- and it raised by exactly one the meter of every place on that sheet, and no other
  pub meters : (a : Answer F) → r ≡ Ok a → (i j : ℕ) → m'.meter i j ≡ cond (listed (mend_sheet code m node) (at i j)) (m.meter i j + 1) (m.meter i j)

-- OF THE LATEST CALL, after the history h
unfoldable pub Latest : {F : Type 0} → Operations F → CodeMeaning F → Ask F → ℕ → Result (Answer F) CallFault → List (Event F) → Meaning F → Meaning F → Type 0
-- an accepted set leaves the whole array held
Latest {F} o code (set xs) n r h m m' = (a : Answer F) → r ≡ Ok a → (i j : ℕ) → i < code.rows → j < code.nodes → Held m' i j
Latest o code (put row column x) n r h m m' = Unit {0}
-- the symbol that an accepted fetch answers is the ledger's for its place
Latest {F} o code (fetch row column) n r h m m' = (a : Answer F) → r ≡ Ok a → (count : ℕ) × (s : F) × (a ≡ Fetched count s) × (ledger o.zero code h row column ≡ Some s)
Latest o code (lose node) n r h m m' = Unit {0}
Latest o code (refresh node) n r h m m' = Unit {0}
Latest o code (mend node) n r h m m' = MendClaims code node n r m m'

-- no call finds the field or the store that the engine was made on too small
pub record Suited {F : Type 0} (r : Result (Answer F) CallFault) : Type 0 where
  pub field : (f : CallFault) → r ≡ Err f → f.reason ≢ SmallField
  pub store : (f : CallFault) → r ≡ Err f → f.reason ≢ SmallStore

-- THE THEOREM: whatever history led here, with this call it leads on to m', and all claims hold
pub record Extended {F : Type 0} (o : Operations F) (size : ℕ) (code : CodeMeaning F) (e : Event F) (m m' m₀ : Meaning F) (h : List (Event F)) : Type 0 where
  pub leads : Leads o size code m₀ (e ∷ h) m'
  pub claims : Claims o code m₀ (e ∷ h) m'
  pub latest : Latest o code e.ask e.room e.answer h m m'
  pub suited : Suited e.answer

unfoldable pub Extends : {F : Type 0} → Operations F → ℕ → CodeMeaning F → Event F → Meaning F → Meaning F → Type 0
Extends {F} o size code e m m' = (m₀ : Meaning F) (h : List (Event F)) → Leads o size code m₀ h m → Extended o size code e m m' m₀ h

-- a making begins a history, and its claims hold
pub record Begun {F : Type 0} (o : Operations F) (size : ℕ) (code : CodeMeaning F) (m₀ m : Meaning F) : Type 0 where
  pub leads : Leads o size code m₀ [] m
  pub claims : Claims o code m₀ [] m

-- EVERY HISTORY, over every code that keeps its laws on a field of this size, has the claims
abbrev pub EveryHistory : {F : Type 0} → Operations F → ℕ → Type 0
EveryHistory {F} o size =
    (code : CodeMeaning F) → (code.field_size ≤ size → CodeLaws o code) → (m₀ m : Meaning F) (h : List (Event F)) → Leads o size code m₀ h m → Claims o code m₀ h m

-- and every call that meets its contract extends it
abbrev pub EveryCall : {F : Type 0} → Operations F → ℕ → Type 0
EveryCall {F} o size =
    (code : CodeMeaning F) → (code.field_size ≤ size → CodeLaws o code) → (e : Event F) (m m' : Meaning F) → Step o size code e.ask e.room e.answer m m' → Extends o size code e m m'
