-- What the repair part promises of making, and of every call after every history. Assumes nothing.
use Rattle.std.specs.Prelude.{◌≡◌, ℕ, ◌+◌, ◌<◌, ◌≤◌, cond, ◌&&◌, length, Some, None, Ok, Err, Option, Result, nat_le}
use Rattle.field.specs.Laws.{Operations}
use Rattle.store.specs.Meaning.{Meaning}
use Rattle.array.specs.declared.parameters.Parameters.{Parameters}
use Rattle.array.specs.declared.fault.ParameterFault.{ParameterFault}
use Rattle.array.specs.declared.fault.ParameterFault.TheVariants.{SmallField}
use Rattle.array.specs.Checks.{declined_over, fault_number}
use Rattle.array.specs.Sheet.{node_sheet}
use Rattle.array.specs.Theorems.{sheet_size}
use Rattle.calls.specs.declared.call.Answer.{Answer}
use Rattle.calls.specs.declared.call.Answer.TheVariants.{Counted}
use Rattle.calls.specs.declared.call.CallFault.{CallFault}
use Rattle.calls.specs.Reading.{blank_below}
use Rattle.calls.specs.Calls.{mend_sheet}
use Rattle.calls.specs.History.{Ask, set, put, fetch, lose, refresh, mend}
use Rattle.calls.specs.Theorem.{Begun}
use Rattle.engine.specs.declared.make.MakeFault as engine_fault
use Rattle.repair.specs.TwoClass.{two_class}
use Rattle.repair.specs.declared.fault.MakeFault.{MakeFault}
use Rattle.repair.specs.declared.fault.MakeFault.TheVariants.{Unfit, SmallStore}
use Rattle.repair.specs.declared.fault.Made.{Made}

-- the numbers of making's faults: 11 to 15 of the parameters, 16 of the store
abbrev pub make_number : MakeFault → ℕ
make_number (Unfit f) = fault_number f
make_number SmallStore = 16

-- a fault of the engine's making as one of the part's
abbrev pub of_engine : engine_fault.MakeFault → MakeFault
of_engine engine_fault.TheVariants.SmallField = Unfit SmallField
of_engine engine_fault.TheVariants.SmallStore = SmallStore

-- why a making is declined, if it is: the parameters, then a store of under k rows or n nodes
abbrev pub store_declined : {F : Type 0} → ℕ → ℕ → ℕ → Meaning F → Option MakeFault
store_declined k a b m = cond (nat_le k m.rows && nat_le (k + a + b) m.nodes) None (Some SmallStore)

abbrev pub unfit_or : Option ParameterFault → Option MakeFault → Option MakeFault
unfit_or None rest = rest
unfit_or (Some f) rest = Some (Unfit f)

unfoldable pub make_declined : {F : Type 0} → ℕ → ℕ → ℕ → ℕ → ℕ → Meaning F → Option MakeFault
make_declined size k a tau b m = unfit_or (declined_over size k a tau b) (store_declined k a b m)

-- OF A MAKING with k, a, τ, b on a store that meant m and means m': it is declined, and changes nothing; or it answers n and an
-- engine with these parameters, the nodes below n are blank with meters 0, and a history begins
pub record Accepted {F : Type 0} (o : Operations F) (symbol : ℕ → F) (size k a tau b : ℕ) (m : Meaning F) (made : Made) (m' : Meaning F) : Type 0 where
  pub passed : make_declined size k a tau b m ≡ None
  pub nodes : made.nodes ≡ k + a + b
  pub data_nodes : made.engine.code.parameters.k ≡ k
  pub class_a : made.engine.code.parameters.a ≡ a
  pub piggybacks : made.engine.code.parameters.tau ≡ tau
  pub class_b : made.engine.code.parameters.b ≡ b
  pub leaves : m' ≡ blank_below (k + a + b) m
  pub begun : Begun o size (two_class o symbol made.engine.code.parameters) m m'

abbrev pub MakeDone : {F : Type 0} → Operations F → (ℕ → F) → ℕ → ℕ → ℕ → ℕ → ℕ → Meaning F → Result Made MakeFault → Meaning F → Type 0
MakeDone o symbol size k a tau b m (Ok made) m' = Accepted o symbol size k a tau b m made m'
MakeDone o symbol size k a tau b m (Err f) m' = (make_declined size k a tau b m ≡ Some f) × (m' ≡ m)

-- OF A MEND: with b ≥ 1 the count of an accepted mend of a data node is k + τ + b + ρ (ρ - 1), one fewer if 2 (τ + b) < k
abbrev pub Sized : {F : Type 0} → Parameters → Ask F → Result (Answer F) CallFault → Type 0
Sized {F} p (mend node) r = node < p.k → 1 ≤ p.b → (a : Answer F) → r ≡ Ok a → a ≡ Counted (sheet_size p)
Sized p (set xs) r = Unit {0}
Sized p (put row column x) r = Unit {0}
Sized p (fetch row column) r = Unit {0}
Sized p (lose node) r = Unit {0}
Sized p (refresh node) r = Unit {0}

-- the read sheet of a node is the array's, whatever the store holds, and with b ≥ 1 a data node's has as many places as stated
pub record Sheets {F : Type 0} (o : Operations F) (symbol : ℕ → F) (p : Parameters) : Type 0 where
  pub same : (m : Meaning F) (node : ℕ) → mend_sheet (two_class o symbol p) m node ≡ node_sheet p node
  pub size : (m : Meaning F) (node : ℕ) → node < p.k → 1 ≤ p.b → length (mend_sheet (two_class o symbol p) m node) ≡ sheet_size p
