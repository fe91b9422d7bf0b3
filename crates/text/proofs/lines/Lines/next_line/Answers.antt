use Rattle.std.proofs.Common.{◌∙◌, ap, inl, inr, rules}
use Rattle.text.specs.Lines.{ended}
use Rattle.text.proofs.Laws.{first_line, some_left}
use Rattle.text.proofs.lines.Lines.next_line.Goals as goal
use Rattle.text.proofs.lines.Lines.next_line.Goals.{else-is_empty-via-then-is_empty+else-is_none, else-is_empty-via-else-is_empty}

pub returns : goal.returns
returns c =
    ap ended c.in_ok-line.ensures.steps
    ∙ first_line c.in_ok-line.line.now _
    (elim c.else-is_empty.branch [
      | else-is_empty-via-then-is_empty+else-is_none w ↦ inr (some_left 10 c.next.new.self.rest w.if-is_none.ensures)
      | else-is_empty-via-else-is_empty w ↦ inl (search rules)
    ])
