-- A machine's answer is the session's. Assumes nothing.
use Rattle.std.proofs.Common.{◌≡◌, List, ℕ, IfOk, Ok, Err, Result, sym, refl, subst}
use Rattle.session.specs.Runs.{Adds}
use Rattle.requests.specs.declared.request.Request.{Request}
use Rattle.desk.specs.declared.machine.Machine.{Machine}
use Rattle.desk.specs.declared.state.State.{State}
use Rattle.desk.specs.Sessions.{Continued, StateAnswers}

module _ {F S : Type 0} (answered : Machine F S → Machine F S → List ℕ → Type 0) (into : Machine F S → State) where
  -- the state goes on with the machine that answered
  pub continues : {X Y : Type 0} (r : Result X Y) (before after : List ℕ) (s : State) (request : Request) (m t : Machine F S) → s ≡ into m → ((bytes : List ℕ) → Continued answered into m (into t) bytes → StateAnswers (into m) request (into t) bytes) → IfOk r (λ _. Adds before after (answered m t)) → IfOk r (λ _. Adds before after (StateAnswers s request (into t)))
  continues (Ok x) before after s request m t e means a =
      (a.0, subst (λ (v : State). StateAnswers v request (into t) a.0) (sym e) (means a.0 (record { machine = t; answer = a.1; state = refl })), a.2)
  continues (Err y) before after s request m t e means a = tt
