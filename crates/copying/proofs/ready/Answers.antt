use Rattle.std.proofs.Common.{Err, sym, ap, ◌∙◌, arith}
use Rattle.std.proofs.lemmas.Result.{err_from_is_err_and}
use Rattle.copying.specs.Copies.{answered, row_fault}
use Rattle.copying.proofs.Rows.{answered_ok, answered_err, fault_more, fault_found}
use Rattle.copying.proofs.ready.Goals as goal

pub returns-in_err-ready_row : goal.returns-in_err-ready_row
returns-in_err-ready_row g c =
    let m = g.P.Store.meaning c.args.from.now in
    let t = g.Q.Store.meaning c.args.to.now in
    let row = c.loop-row.row in
    let f = c.in_err-ready_row.field-0.0 in
    let k = answered_err (row_fault m c.args.source t c.args.target row) f c.in_err-ready_row.ensures in
    let h = fault_found m c.args.source t c.args.target row m.rows f (omega (arith, c.rows-rows.ensures)) c.loop-row.invariant k in
    let p = err_from_is_err_and c.from_residual.result c.from_residual.ensures.1 in
    p.1 ∙ (ap Err p.2 ∙ sym (ap answered h))

pub loop-row-preserved : goal.loop-row-preserved
loop-row-preserved g c =
    let m = g.P.Store.meaning c.args.from.now in
    let t = g.Q.Store.meaning c.args.to.now in
    fault_more m c.args.source t c.args.target c.loop-row.row c.loop-row.invariant (answered_ok (row_fault m c.args.source t c.args.target c.loop-row.row) _ c.in_ok-ready_row.ensures)
