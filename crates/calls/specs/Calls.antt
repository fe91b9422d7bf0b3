-- Making and the six calls: when each is declined, what it answers and what it leaves. Assumes nothing.
use Rattle.std.specs.Prelude.{◌≡◌, ℕ, zero, suc, ◌+◌, ◌*◌, ◌<◌, Bool, true, false, cond, ◌&&◌, ◌||◌, ◌⊎◌, List, [], ◌∷◌, length, get_or, Some, None, Ok, Err, Option, Result, ◌==◌, nat_le, nat_lt, slice_index_or}
use Rattle.field.specs.Laws.{Operations}
use Rattle.store.specs.Meaning.{Meaning, total, probed, cleared, refreshed, fault}
use Rattle.store.specs.declared.fault.Cause.{Cause}
use Rattle.store.specs.declared.fault.Cause.TheVariants.{Blank, Worn}
use Rattle.sheet.specs.declared.place.Place.{Place}
use Rattle.sheet.specs.declared.place.Entry.{Entry}
use Rattle.sheet.specs.declared.place.Record.{Record}
use Rattle.sheet.specs.declared.place.Part.TheVariants.{First}
use Rattle.sheet.specs.Places.{at, listed, places_of, sheet_of}
use Rattle.code.specs.Codes.{CodeMeaning, Recipe, Change, blanks, is_blank}
use Rattle.calls.specs.declared.call.CallName.{CallName}
use Rattle.calls.specs.declared.call.CallName.TheVariants.{Set, Put, Fetch, Lose, Refresh, Mend}
use Rattle.calls.specs.declared.call.Reason.{Reason}
use Rattle.calls.specs.declared.call.Reason.TheVariants.{SmallField, SmallStore, OutOfRange, WrongLength, ShortMemory, NotLost, Sheet}
use Rattle.calls.specs.declared.call.CallFault.{CallFault}
use Rattle.calls.specs.declared.call.Found.{Found}
use Rattle.calls.specs.Reading.{symbol_at, seen, raised, painted, in_array, in_node, blank_below, wiped}

-- the store has the rows and nodes that the code wants
unfoldable pub fits : {F : Type 0} → CodeMeaning F → Meaning F → Bool
fits code m = nat_le code.rows m.rows && nat_le code.nodes m.nodes

-- first of all a field, then a store, that is too small is declined; `size` is the field's
unfoldable pub suited : {F : Type 0} → ℕ → CodeMeaning F → Meaning F → Option Reason → Option Reason
suited size code m rest = cond (nat_le code.field_size size) (cond (fits code m) rest (Some SmallStore)) (Some SmallField)

-- MAKING: it clears the code's nodes
unfoldable pub make_decline : {F : Type 0} → ℕ → CodeMeaning F → Meaning F → Option Reason
make_decline size code m = suited size code m None

pub record Made {F : Type 0} (size : ℕ) (code : CodeMeaning F) (m m' : Meaning F) : Type 0 where
  pub accepted : make_decline size code m ≡ None
  pub leaves : m' ≡ blank_below code.nodes m

-- the answer of a call: a, unless it is declined
unfoldable pub answered : {A : Type 0} → CallName → Option Reason → A → Result A CallFault
answered call None a = Ok a
answered call (Some e) a = Err (record { call = call; reason = e })

-- what a call leaves: x, unless it is declined, and then y
unfoldable pub unless : {A : Type 0} → Option Reason → A → A → A
unless None x y = x
unless (Some e) x y = y

-- A CALL THAT READS NOTHING is declined for d, or answers a and leaves m₂
pub record Plain {A F : Type 0} (call : CallName) (d : Option Reason) (a : A) (m m₂ : Meaning F) (r : Result A CallFault) (m' : Meaning F) : Type 0 where
  pub answer : r ≡ answered call d a
  pub leaves : m' ≡ unless d m₂ m

-- A CALL THAT READS A SHEET, where no check but the sheet's is left: no place of it is blank or worn, and it answers a and leaves m₂
pub record Read {A F : Type 0} (m : Meaning F) (es : List Entry) (a : A) (m₂ : Meaning F) (r : Result A CallFault) (m' : Meaning F) : Type 0 where
  pub clear : (i j : ℕ) → listed (places_of es) (at i j) ≡ true → (s : F) × (probed m i j ≡ Ok s)
  pub answer : r ≡ Ok a
  pub leaves : m' ≡ m₂

-- or it names a place of the sheet, with its part, that a probe declines as blank or worn, and changes nothing
pub record Unread {A F : Type 0} (call : CallName) (m : Meaning F) (es : List Entry) (r : Result A CallFault) (m' : Meaning F) : Type 0 where
  pub index : ℕ
  pub entry : Entry
  pub cause : Cause
  pub within : index < length es
  pub on_sheet : get_or es index entry ≡ entry
  pub declined : probed m entry.place.row entry.place.node ≡ Err (fault entry.place.row entry.place.node cause)
  pub named : (cause ≡ Blank) ⊎ (cause ≡ Worn)
  pub answer : r ≡ Err (record { call = call; reason = Sheet (record { call = call; part = entry.part; fault = fault entry.place.row entry.place.node cause }) })
  pub leaves : m' ≡ m

-- a declined call changes nothing
pub record Declined {A F : Type 0} (call : CallName) (m : Meaning F) (e : Reason) (r : Result A CallFault) (m' : Meaning F) : Type 0 where
  pub answer : r ≡ Err (record { call = call; reason = e })
  pub leaves : m' ≡ m

unfoldable pub Sheeted : {A F : Type 0} → CallName → Option Reason → Meaning F → List Entry → A → Meaning F → Result A CallFault → Meaning F → Type 0
Sheeted call None m es a m₂ r m' = Read m es a m₂ r m' ⊎ Unread call m es r m'
Sheeted call (Some e) m es a m₂ r m' = Declined call m e r m'

-- SET
-- the data that symbols give row by row, and zero off the data
unfoldable pub data_of : {F : Type 0} → F → CodeMeaning F → List F → ℕ → ℕ → F
data_of z code xs i j = cond (nat_lt i code.rows && nat_lt j code.columns) (slice_index_or xs (i * code.columns + j) z) z

unfoldable pub set_decline : {F : Type 0} → ℕ → CodeMeaning F → Meaning F → ℕ → Option Reason
set_decline size code m n = suited size code m (cond (n == code.rows * code.columns) None (Some WrongLength))

-- the store with the whole array over the data
unfoldable pub array_set : {F : Type 0} → CodeMeaning F → Meaning F → (ℕ → ℕ → F) → Meaning F
array_set code m d = painted m (in_array code.rows code.nodes) (code.symbol d)

unfoldable pub SetDone : {F : Type 0} → Operations F → ℕ → CodeMeaning F → Meaning F → List F → Result ℕ CallFault → Meaning F → Type 0
SetDone o size code m xs r m' = Plain Set (set_decline size code m (length xs)) 0 m (array_set code m (data_of o.zero code xs)) r m'

-- LOSE AND REFRESH
-- the meters of a node
unfoldable pub node_meters : {F : Type 0} → Meaning F → ℕ → ℕ
node_meters m node = total (λ row. m.meter row node) m.rows

unfoldable pub node_decline : {F : Type 0} → ℕ → CodeMeaning F → Meaning F → ℕ → Option Reason
node_decline size code m node = suited size code m (cond (nat_lt node code.nodes) None (Some OutOfRange))

unfoldable pub LoseDone : {F : Type 0} → ℕ → CodeMeaning F → Meaning F → ℕ → Result ℕ CallFault → Meaning F → Type 0
LoseDone size code m node r m' = Plain Lose (node_decline size code m node) (node_meters m node) m (cleared m node) r m'

unfoldable pub RefreshDone : {F : Type 0} → ℕ → CodeMeaning F → Meaning F → ℕ → Result ℕ CallFault → Meaning F → Type 0
RefreshDone size code m node r m' = Plain Refresh (node_decline size code m node) (node_meters m node) m (refreshed m node) r m'

-- PUT
unfoldable pub put_decline : {F : Type 0} → ℕ → CodeMeaning F → Meaning F → ℕ → ℕ → Option Reason
put_decline size code m row column = suited size code m (cond (nat_lt row code.rows && nat_lt column code.columns) None (Some OutOfRange))

-- each place of the change read once, and its symbol changed by the difference times its weight
unfoldable pub patched : {F : Type 0} → Operations F → Meaning F → Change F → ℕ → ℕ → F → Meaning F
patched o m c row column x =
    painted (raised m (places_of c.entries)) (λ i j. listed (places_of c.entries) (at i j))
    (λ i j. o.sum (symbol_at o.zero m i j) (o.product (c.weight i j) (o.difference x (symbol_at o.zero m row column))))

unfoldable pub PutDone : {F : Type 0} → Operations F → ℕ → CodeMeaning F → Meaning F → ℕ → ℕ → F → Result ℕ CallFault → Meaning F → Type 0
PutDone o size code m row column x r m' =
    Sheeted Put (put_decline size code m row column) m (code.put row column).entries (length (places_of (code.put row column).entries)) (patched o m (code.put row column) row column x) r m'

-- what a recipe gives in a row, from the store's symbols on its places alone
unfoldable pub given_by : {F : Type 0} → F → Meaning F → Recipe F → ℕ → F
given_by z m r row = r.symbol (seen z m (places_of r.entries)) row

-- FETCH: of a held place that place itself, and of a blank one by the code
unfoldable pub fetch_decline : {F : Type 0} → ℕ → CodeMeaning F → Meaning F → ℕ → ℕ → ℕ → Option Reason
fetch_decline size code m row column n =
    suited size code m (cond (nat_lt row code.rows && nat_lt column code.columns) (cond (nat_le code.fetch_room n) None (Some ShortMemory)) (Some OutOfRange))

unfoldable pub held : {F : Type 0} → ℕ → ℕ → Recipe F
held row column = record { entries = record { part = First; place = at row column } ∷ []; symbol = λ f i. f i column }

unfoldable pub fetch_recipe : {F : Type 0} → CodeMeaning F → Meaning F → ℕ → ℕ → Recipe F
fetch_recipe code m row column = cond (is_blank (m.symbol row column)) (code.fetch (blanks m) row column) (held row column)

unfoldable pub found : {F : Type 0} → F → Meaning F → Recipe F → ℕ → Found F
found z m r row = record { count = length (sheet_of r.entries); symbol = given_by z m r row }

-- a fetch by a recipe
unfoldable pub FetchedBy : {F : Type 0} → F → Option Reason → Meaning F → Recipe F → ℕ → Result (Found F) CallFault → Meaning F → Type 0
FetchedBy z d m p row r m' = Sheeted Fetch d m p.entries (found z m p row) (raised m (sheet_of p.entries)) r m'

unfoldable pub FetchDone : {F : Type 0} → Operations F → ℕ → CodeMeaning F → Meaning F → ℕ → ℕ → ℕ → Result (Found F) CallFault → Meaning F → Type 0
FetchDone o size code m row column n r m' = FetchedBy o.zero (fetch_decline size code m row column n) m (fetch_recipe code m row column) row r m'

-- MEND
-- whether a node has a blank place in the rows below n
unfoldable pub any_blank : {F : Type 0} → Meaning F → ℕ → ℕ → Bool
any_blank m node zero = false
any_blank m node (suc n) = is_blank (m.symbol n node) || any_blank m node n

-- a node is lost if one of its places in the array's rows is blank
unfoldable pub lost : {F : Type 0} → CodeMeaning F → Meaning F → ℕ → Bool
lost code m node = any_blank m node code.rows

unfoldable pub mend_decline : {F : Type 0} → ℕ → CodeMeaning F → Meaning F → ℕ → ℕ → Option Reason
mend_decline size code m node n =
    suited size code m (cond (nat_lt node code.nodes) (cond (nat_le (code.mend_room node) n) (cond (lost code m node) None (Some NotLost)) (Some ShortMemory)) (Some OutOfRange))

unfoldable pub mend_recipe : {F : Type 0} → CodeMeaning F → Meaning F → ℕ → Recipe F
mend_recipe code m node = code.mend (blanks m) node

-- THE READ SHEET of a node's mend
unfoldable pub mend_sheet : {F : Type 0} → CodeMeaning F → Meaning F → ℕ → List Place
mend_sheet code m node = sheet_of (mend_recipe code m node).entries

unfoldable pub mended : {F : Type 0} → F → CodeMeaning F → Meaning F → ℕ → Meaning F
mended z code m node = painted (raised m (mend_sheet code m node)) (in_node code.rows node) (λ i j. given_by z m (mend_recipe code m node) i)

unfoldable pub MendDone : {F : Type 0} → Operations F → ℕ → CodeMeaning F → Meaning F → ℕ → ℕ → Result ℕ CallFault → Meaning F → Type 0
MendDone o size code m node n r m' =
    Sheeted Mend (mend_decline size code m node n) m (mend_recipe code m node).entries (length (mend_sheet code m node)) (mended o.zero code m node) r m'

-- WORKING MEMORY: an accepted fetch or mend leaves every record at place 0, 0 with symbol zero; a declined one changes none
unfoldable pub after_memory : {A F : Type 0} → F → Result A CallFault → List (Record F) → List (Record F)
after_memory z (Ok a) memory = wiped z memory
after_memory z (Err e) memory = memory
