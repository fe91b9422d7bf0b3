use Rattle.std.proofs.Common.{◌≡◌, ℕ, ◌<◌, get_or}
use Rattle.reading.proofs.memory.spread.Given as goal

abbrev pub invariant-loop-record : goal.invariant-loop-record
invariant-loop-record g l = (n : ℕ) → n < l.record-index → get_or l.memory n l.each ≡ l.each
