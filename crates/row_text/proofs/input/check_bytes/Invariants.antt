use Rattle.std.proofs.Common.{◌≡◌, drop}
use Rattle.row_text.specs.Input.{first_fault}
use Rattle.row_text.proofs.input.check_bytes.Given as goal

abbrev pub invariant-loop-i : goal.invariant-loop-i
invariant-loop-i l = first_fault 0 l.line ≡ first_fault l.i (drop l.i l.line)
