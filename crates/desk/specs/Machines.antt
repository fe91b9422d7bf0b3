-- What a request to an engine with its store is answered. Assumes nothing.
use Rattle.std.specs.Prelude.{◌≡◌, ℕ, ◌⊎◌, List, map, Err, Option, Result}
use Rattle.field.specs.Laws.{Operations}
use Rattle.store.specs.Meaning.{Meaning}
use Rattle.calls.specs.declared.call.Answer.{Answer}
use Rattle.calls.specs.declared.call.CallFault.{CallFault}
use Rattle.calls.specs.History.{Ask, set, put, fetch, lose, refresh, mend}
use Rattle.text.specs.Words.{place, left, texts}
use Rattle.requests.specs.Phrases.{symbols}
use Rattle.requests.specs.declared.request.Request.{Request}
use Rattle.requests.specs.declared.request.Request.TheVariants.{Make, Set, Put, Fetch, Lose, Refresh, Mend}
use Rattle.symbols.specs.Reading.{NoSymbol}
use Rattle.answers.specs.Lines.{Reply, answer_line}
use Rattle.answers.specs.declared.decline.Decline.TheVariants.{NotSymbol, AlreadyMade}
use Rattle.desk.specs.declared.machine.Machine.{Machine}
use Rattle.desk.specs.Engines.{Serving}
use Rattle.desk.specs.Replies.{reply_of}

-- the call that a request asks for, where `written` gives a symbol's word
abbrev pub Asks : {F : Type 0} → (F → List ℕ) → Request → Ask F → Type 0
Asks written (Make field store k a tau b) ask = ⊥
Asks {F} written (Set ws) ask = (xs : List F) × (texts (left ws) ≡ map written xs) × (ask ≡ set xs)
Asks {F} written (Put row node word) ask = (x : F) × ((place word).bytes ≡ written x) × (ask ≡ put row node x)
Asks written (Fetch row node) ask = ask ≡ fetch row node
Asks written (Lose node) ask = ask ≡ lose node
Asks written (Refresh node) ask = ask ≡ refresh node
Asks written (Mend node) ask = ask ≡ mend node

-- one call on a machine: its engine stays, and its store goes from meaning to meaning by the engine's contract, with 1,024 records of working memory
pub record Called {F S : Type 0} (o : Operations F) (symbol : ℕ → Option F) (size : ℕ) (meaning : S → Meaning F) (ask : Ask F) (m t : Machine F S) (reply : Reply F) : Type 0 where
  pub answer : Result (Answer F) CallFault
  pub serving : Serving o symbol size m.engine ask 1024 answer (meaning m.store) (meaning t.store)
  pub engine : t.engine ≡ m.engine
  pub replied : reply ≡ reply_of answer

-- a word that is no symbol is declined, and changes nothing
pub record Unread {F S : Type 0} (written : F → List ℕ) (request : Request) (m t : Machine F S) (reply : Reply F) : Type 0 where
  pub word : NoSymbol written (symbols request)
  pub kept : t ≡ m
  pub replied : reply ≡ Err NotSymbol

-- the request's call is served
pub record Served {F S : Type 0} (o : Operations F) (symbol : ℕ → Option F) (size : ℕ) (written : F → List ℕ) (meaning : S → Meaning F) (request : Request) (m t : Machine F S) (reply : Reply F) : Type 0 where
  pub ask : Ask F
  pub asks : Asks written request ask
  pub called : Called o symbol size meaning ask m t reply

-- what a machine replies to a request that is no make
abbrev pub Replies : {F S : Type 0} → Operations F → (ℕ → Option F) → ℕ → (F → List ℕ) → (S → Meaning F) → Request → Machine F S → Machine F S → Reply F → Type 0
Replies o symbol size written meaning request m t reply = Unread written request m t reply ⊎ Served o symbol size written meaning request m t reply

-- what a machine replies to any request: a make comes after an accepted make
abbrev pub Answers : {F S : Type 0} → Operations F → (ℕ → Option F) → ℕ → (F → List ℕ) → (S → Meaning F) → Request → Machine F S → Machine F S → Reply F → Type 0
Answers o symbol size written meaning (Make field store k a tau b) m t reply = (t ≡ m) × (reply ≡ Err AlreadyMade)
Answers o symbol size written meaning (Set ws) m t reply = Replies o symbol size written meaning (Set ws) m t reply
Answers o symbol size written meaning (Put row node word) m t reply = Replies o symbol size written meaning (Put row node word) m t reply
Answers o symbol size written meaning (Fetch row node) m t reply = Replies o symbol size written meaning (Fetch row node) m t reply
Answers o symbol size written meaning (Lose node) m t reply = Replies o symbol size written meaning (Lose node) m t reply
Answers o symbol size written meaning (Refresh node) m t reply = Replies o symbol size written meaning (Refresh node) m t reply
Answers o symbol size written meaning (Mend node) m t reply = Replies o symbol size written meaning (Mend node) m t reply

-- and the bytes of that reply
pub record Answered {F S : Type 0} (o : Operations F) (symbol : ℕ → Option F) (size : ℕ) (written : F → List ℕ) (meaning : S → Meaning F) (request : Request) (m t : Machine F S) (bytes : List ℕ) : Type 0 where
  pub reply : Reply F
  pub answers : Answers o symbol size written meaning request m t reply
  pub line : bytes ≡ answer_line written reply
