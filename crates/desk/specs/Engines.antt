-- What an engine does at a make and at a call. Assumes nothing.
use Rattle.std.specs.Prelude.{ℕ, Option, Result}
use Rattle.field.specs.Laws.{Operations}
use Rattle.row.specs.Numbered.{numbered}
use Rattle.store.specs.Meaning.{Meaning}
use Rattle.code.specs.Codes.{CodeMeaning}
use Rattle.calls.specs.declared.call.Answer.{Answer}
use Rattle.calls.specs.declared.call.CallFault.{CallFault}
use Rattle.calls.specs.History.{Ask, Step}
use Rattle.calls.specs.Theorem.{Extends}
use Rattle.engine.specs.declared.Engine.{Engine}
use Rattle.repair.specs.declared.types.TwoClass.{TwoClass}
use Rattle.repair.specs.declared.fault.Made.{Made}
use Rattle.repair.specs.declared.fault.MakeFault.{MakeFault}
use Rattle.repair.specs.TwoClass.{two_class}
use Rattle.repair.specs.Promise.{MakeDone, Sized}

-- the code of an engine, over a field with these operations and these symbols by number
abbrev pub code_of : {F : Type 0} → Operations F → (ℕ → Option F) → Engine TwoClass → CodeMeaning F
code_of o symbol engine = two_class o (numbered o.zero symbol) engine.code.parameters

-- a making with k, a, τ, b on a store that meant m answered r, and the store means m'
abbrev pub Making : {F : Type 0} → Operations F → (ℕ → Option F) → ℕ → ℕ → ℕ → ℕ → ℕ → Meaning F → Result Made MakeFault → Meaning F → Type 0
Making o symbol size k a tau b m r m' = MakeDone o (numbered o.zero symbol) size k a tau b m r m'

-- a call, asked with n records of memory at a store that meant m, answered r, and the store means m': it is one step of the engine, it extends every history that led to m, and a mend's count is as stated
pub record Serving {F : Type 0} (o : Operations F) (symbol : ℕ → Option F) (size : ℕ) (engine : Engine TwoClass) (ask : Ask F) (n : ℕ) (r : Result (Answer F) CallFault) (m m' : Meaning F) : Type 0 where
  pub step : Step o size (code_of o symbol engine) ask n r m m'
  pub history : Extends o size (code_of o symbol engine) (record { ask = ask; room = n; answer = r }) m m'
  pub sized : Sized engine.code.parameters ask r
