-- What making an engine answers and leaves, and the numbers of its faults. Assumes nothing.
use Rattle.std.specs.Prelude.{ℕ, cond, Ok, Err, Result, nat_le}
use Rattle.store.specs.Meaning.{Meaning}
use Rattle.code.specs.Codes.{CodeMeaning}
use Rattle.calls.specs.Reading.{blank_below}
use Rattle.calls.specs.Calls.{fits}
use Rattle.engine.specs.declared.make.MakeFault.{MakeFault}
use Rattle.engine.specs.declared.make.MakeFault.TheVariants.{SmallField, SmallStore}

abbrev pub make_number : MakeFault → ℕ
make_number SmallField = 15
make_number SmallStore = 16

-- first the field, then the store, is too small, and else an engine is made
unfoldable pub make_answer : {A F : Type 0} → ℕ → CodeMeaning F → Meaning F → A → Result A MakeFault
make_answer size code m e = cond (nat_le code.field_size size) (cond (fits code m) (Ok e) (Err SmallStore)) (Err SmallField)

-- a declined making changes nothing, and an accepted one blanks the code's nodes
unfoldable pub make_leaves : {F : Type 0} → ℕ → CodeMeaning F → Meaning F → Meaning F
make_leaves size code m = cond (nat_le code.field_size size) (cond (fits code m) (blank_below code.nodes m) m) m
