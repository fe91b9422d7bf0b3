use Rattle.std.proofs.Common.{Err, sym, ap, ◌∙◌}
use Rattle.std.proofs.lemmas.Result.{err_from_is_err_and}
use Rattle.sheet.specs.Entries.{left}
use Rattle.reading.specs.Checks.{checked}
use Rattle.reading.proofs.Checking.{check_stop}
use Rattle.reading.proofs.checks.check.Goals as goal

pub returns-in_err-probe_entry : goal.returns-in_err-probe_entry
returns-in_err-probe_entry g c =
    let m = g.S.Store.meaning c.args.store.now in
    let p = err_from_is_err_and c.from_residual.result c.from_residual.ensures.1 in
    p.1 ∙ ap Err p.2 ∙ sym (check_stop c.args.call m c.in-Some.entry (left c.next.new.self) c.in_err-probe_entry.field-0.0 c.in_err-probe_entry.ensures)
    ∙ ap (checked c.args.call m) (sym c.in-Some.ensures.steps)
    ∙ c.loop-entry.invariant
