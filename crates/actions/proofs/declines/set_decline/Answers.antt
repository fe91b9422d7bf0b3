use Rattle.std.proofs.Common.{None, arith}
use Rattle.calls.proofs.Declines.{suited_passed, fits_parts}
use Rattle.actions.proofs.Declining.{allowed_ok, area_few}
use Rattle.actions.proofs.declines.set_decline.Goals as goal

pub overflow_mul-rows : goal.overflow_mul-rows
overflow_mul-rows g c =
    let p = suited_passed g.F.NumberedField.size (g.C.Code.code c.args.code.now) (g.S.Store.meaning c.args.store.now) None (allowed_ok c.in_ok-suits.ensures) in
    let q = fits_parts (g.C.Code.code c.args.code.now) (g.S.Store.meaning c.args.store.now) p.1 in
    let s = g.met.S.Store.sound c.args.store.now in
    let wide = (g.met.C.Code.lawful c.args.code.now p.0).wide in
    let few = area_few c.rows.result c.columns.result (omega (arith, q.0, s.few_rows, c.rows.ensures)) (omega (arith, q.1, s.few_nodes, wide, c.columns.ensures)) in
    omega arith
