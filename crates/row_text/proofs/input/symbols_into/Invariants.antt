use Rattle.std.proofs.Common.{◌≡◌, ℕ, ◌<◌, get_or}
use Rattle.field.specs.declared.decimal.Decimal.TheVariants.{Zero}
use Rattle.row_text.specs.Input.{symbol_at}
use Rattle.row_text.proofs.input.symbols_into.Given as goal

abbrev pub invariant-loop-j : goal.invariant-loop-j
invariant-loop-j l = (i : ℕ) → i < l.j → get_or l.out i Zero ≡ symbol_at l.line i
