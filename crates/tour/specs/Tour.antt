-- What a caller knows at the end of its calls. Assumes nothing.
use Rattle.std.specs.Prelude.{◌≡◌, ℕ, List, [], ◌∷◌, map}
use Rattle.field.specs.Laws.{Operations}
use Rattle.store.specs.Meaning.{Meaning}
use Rattle.code.specs.Codes.{CodeMeaning}
use Rattle.calls.specs.declared.call.Call.{Call}
use Rattle.calls.specs.History.{Ask, asked, Event, Leads}
use Rattle.calls.specs.Theorem.{Claims}

-- some history led from a making to here, and its claims hold
pub record Reached {F : Type 0} (o : Operations F) (size : ℕ) (code : CodeMeaning F) (m₀ m : Meaning F) : Type 0 where
  pub history : List (Event F)
  pub leads : Leads o size code m₀ history m
  pub claims : Claims o code m₀ history m

-- the calls of a history, the latest first
unfoldable pub asks_of : {F : Type 0} → List (Event F) → List (Ask F)
asks_of h = map (λ e. e.ask) h

-- calls in their order, before what was asked earlier
unfoldable pub asked_after : {F : Type 0} → List (Call F) → List (Ask F) → List (Ask F)
asked_after [] earlier = earlier
asked_after (c ∷ cs) earlier = asked_after cs (asked c ∷ earlier)

-- a history that goes on from another by these calls, and its claims hold
pub record Continued {F : Type 0} (o : Operations F) (size : ℕ) (code : CodeMeaning F) (calls : List (Call F)) (m₀ : Meaning F) (h : List (Event F)) (m : Meaning F) : Type 0 where
  pub history : List (Event F)
  pub asks : asks_of history ≡ asked_after calls (asks_of h)
  pub leads : Leads o size code m₀ history m
  pub claims : Claims o code m₀ history m

-- whatever history led from a making to m, it goes on by these calls to m'
unfoldable pub Onward : {F : Type 0} → Operations F → ℕ → CodeMeaning F → List (Call F) → Meaning F → Meaning F → Type 0
Onward {F} o size code calls m m' = (m₀ : Meaning F) (h : List (Event F)) → Leads o size code m₀ h m → Claims o code m₀ h m → Continued o size code calls m₀ h m'
