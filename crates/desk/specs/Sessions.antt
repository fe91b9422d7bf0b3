-- What each line of a session is answered. Assumes nothing.
use Rattle.std.specs.Prelude.{◌≡◌, ℕ, List, Ok, Err, Result}
use Rattle.field.specs.Decimal.{symbol_of, decimal}
use Rattle.field.specs.declared.decimal.Decimal.{Decimal}
use Rattle.byte.specs.Bytes.{byte_operations, byte_symbol}
use Rattle.symbols.specs.Words.{decimal_word, byte_word}
use Rattle.kept.specs.Stores.{bank_means, image_means}
use Rattle.lines.specs.declared.line.LineFault.{LineFault}
use Rattle.requests.specs.declared.request.Request.{Request}
use Rattle.requests.specs.Reading.{Read}
use Rattle.answers.specs.Declines.{line_decline}
use Rattle.answers.specs.Lines.{Reply, answer_line}
use Rattle.desk.specs.declared.machine.Machine.{Machine}
use Rattle.desk.specs.declared.state.State.{State}
use Rattle.desk.specs.declared.state.State.TheVariants.{New, DecimalBank, DecimalImage, ByteBank, ByteImage}
use Rattle.desk.specs.declared.state.Desk.{Desk}
use Rattle.desk.specs.Machines.{Answered}
use Rattle.desk.specs.Makings.{First}

-- before the first accepted make
pub record FirstAnswered (request : Request) (t : State) (bytes : List ℕ) : Type 0 where
  pub reply : Reply Decimal
  pub first : First request t reply
  pub line : bytes ≡ answer_line decimal_word reply

-- after it: the engine's machine answers, and the state goes on with that machine
pub record Continued {F S : Type 0} (answered : Machine F S → Machine F S → List ℕ → Type 0) (into : Machine F S → State) (m : Machine F S) (t : State) (bytes : List ℕ) : Type 0 where
  pub machine : Machine F S
  pub answer : answered m machine bytes
  pub state : t ≡ into machine

-- what a request is answered in a state, and the state after it
abbrev pub StateAnswers : State → Request → State → List ℕ → Type 0
StateAnswers New request t bytes = FirstAnswered request t bytes
StateAnswers (DecimalBank m) request t bytes = Continued (Answered decimal symbol_of 11 decimal_word bank_means request) DecimalBank m t bytes
StateAnswers (DecimalImage m) request t bytes = Continued (Answered decimal symbol_of 11 decimal_word (image_means symbol_of) request) DecimalImage m t bytes
StateAnswers (ByteBank m) request t bytes = Continued (Answered byte_operations byte_symbol 256 byte_word bank_means request) ByteBank m t bytes
StateAnswers (ByteImage m) request t bytes = Continued (Answered byte_operations byte_symbol 256 byte_word (image_means byte_symbol) request) ByteImage m t bytes

-- a line that breaks a rule is declined by it, and leaves the session as it is
abbrev pub LineAnswers : Desk → Result Request LineFault → Desk → List ℕ → Type 0
LineAnswers s (Err fault) t bytes = (t ≡ s) × (bytes ≡ answer_line decimal_word (Err (line_decline fault)))
LineAnswers s (Ok request) t bytes = StateAnswers s.state request t.state bytes

-- WHAT A LINE IS ANSWERED in a session: the bytes, and the session after it
pub record SessionAnswers (s : Desk) (line : List ℕ) (t : Desk) (bytes : List ℕ) : Type 0 where
  pub said : Result Request LineFault
  pub read : Read line said
  pub answers : LineAnswers s said t bytes
