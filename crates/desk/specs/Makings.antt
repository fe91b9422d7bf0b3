-- What a request comes to before the first accepted make. Assumes nothing.
use Rattle.std.specs.Prelude.{◌≡◌, ℕ, Ok, Err, Option, Result}
use Rattle.field.specs.Laws.{Operations}
use Rattle.field.specs.Decimal.{symbol_of, decimal}
use Rattle.field.specs.declared.decimal.Decimal.{Decimal}
use Rattle.byte.specs.Bytes.{byte_operations, byte_symbol}
use Rattle.store.specs.Meaning.{Meaning, blank}
use Rattle.kept.specs.Stores.{bank_means, image_means}
use Rattle.requests.specs.declared.request.FieldKind.{FieldKind}
use Rattle.requests.specs.declared.request.FieldKind as field
use Rattle.requests.specs.declared.request.StoreKind.{StoreKind}
use Rattle.requests.specs.declared.request.StoreKind as store
use Rattle.requests.specs.declared.request.Request.{Request}
use Rattle.requests.specs.declared.request.Request.TheVariants.{Make, Set, Put, Fetch, Lose, Refresh, Mend}
use Rattle.repair.specs.declared.fault.MakeFault.{MakeFault}
use Rattle.answers.specs.declared.decline.Decline.{Decline}
use Rattle.answers.specs.declared.decline.Decline.TheVariants.{NotMade}
use Rattle.answers.specs.declared.reply.Accepted.TheVariants.{Made}
use Rattle.answers.specs.Lines.{Reply}
use Rattle.desk.specs.declared.machine.Machine.{Machine}
use Rattle.desk.specs.declared.state.State.{State}
use Rattle.desk.specs.declared.state.State.TheVariants.{New, DecimalBank, DecimalImage, ByteBank, ByteImage}
use Rattle.desk.specs.Engines.{Making}
use Rattle.desk.specs.Replies.{make_decline}

-- what a make comes to: what it made with the number of its nodes, or a decline
abbrev pub Begun : Type 0 → Type 0
Begun M = Result (M × ℕ) Decline

-- a make with k, a, τ, b on a store that means m: by the engine's contract it is accepted, or declined with its fault's number
abbrev pub Begins : {F S : Type 0} → Operations F → (ℕ → Option F) → ℕ → (S → Meaning F) → ℕ → ℕ → ℕ → ℕ → Meaning F → Begun (Machine F S) → Type 0
Begins o symbol size meaning k a tau b m (Ok made) = Making o symbol size k a tau b m (Ok (record { engine = made.0.engine; nodes = made.1 })) (meaning made.0.store)
Begins {F} o symbol size meaning k a tau b m (Err d) = (f : MakeFault) × (m' : Meaning F) × Making o symbol size k a tau b m (Err f) m' × (d ≡ make_decline f)

-- a machine that was made is a state of the session
abbrev pub stated : {F S : Type 0} → (Machine F S → State) → Begun (Machine F S) → Begun State
stated into (Ok made) = Ok (into made.0, made.1)
stated into (Err d) = Err d

-- the session's state after a make, and the reply
abbrev pub state_after : Begun State → State
state_after (Ok made) = made.0
state_after (Err d) = New

abbrev pub make_reply : Begun State → Reply Decimal
make_reply (Ok made) = Ok (Made made.1)
make_reply (Err d) = Err d

-- a make on a new store, blank with meters 0, of 32 rows and 93 nodes
pub record Starts {F S : Type 0} (o : Operations F) (symbol : ℕ → Option F) (size : ℕ) (meaning : S → Meaning F) (life : ℕ) (into : Machine F S → State) (k a tau b : ℕ) (r : Begun State) : Type 0 where
  pub begun : Begun (Machine F S)
  pub begins : Begins o symbol size meaning k a tau b (blank F 32 93 life) begun
  pub state : r ≡ stated into begun

-- with the field and the store that were asked for
abbrev pub Started : FieldKind → StoreKind → ℕ → ℕ → ℕ → ℕ → Begun State → Type 0
Started field.TheVariants.Decimal store.TheVariants.Bank k a tau b r = Starts decimal symbol_of 11 bank_means 1000 DecimalBank k a tau b r
Started field.TheVariants.Decimal store.TheVariants.Image k a tau b r = Starts decimal symbol_of 11 (image_means symbol_of) 250 DecimalImage k a tau b r
Started field.TheVariants.Byte store.TheVariants.Bank k a tau b r = Starts byte_operations byte_symbol 256 bank_means 1000 ByteBank k a tau b r
Started field.TheVariants.Byte store.TheVariants.Image k a tau b r = Starts byte_operations byte_symbol 256 (image_means byte_symbol) 250 ByteImage k a tau b r

-- an accepted make leaves its state and is answered its number of nodes
pub record Makes (f : FieldKind) (s : StoreKind) (k a tau b : ℕ) (t : State) (r : Reply Decimal) : Type 0 where
  pub begun : Begun State
  pub started : Started f s k a tau b begun
  pub state : t ≡ state_after begun
  pub replied : r ≡ make_reply begun

-- 44: another call before an accepted make
pub record Early (t : State) (r : Reply Decimal) : Type 0 where
  pub kept : t ≡ New
  pub replied : r ≡ Err NotMade

-- what a request comes to before the first accepted make
abbrev pub First : Request → State → Reply Decimal → Type 0
First (Make f s k a tau b) t r = Makes f s k a tau b t r
First (Set ws) t r = Early t r
First (Put row node word) t r = Early t r
First (Fetch row node) t r = Early t r
First (Lose node) t r = Early t r
First (Refresh node) t r = Early t r
First (Mend node) t r = Early t r
