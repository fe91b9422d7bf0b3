use Rattle.std.proofs.Common.{length, sym, ap, ◌∙◌}
use Rattle.sheet.specs.Places.{at, listed, places_of}
use Rattle.code.specs.Codes.{blanks}
use Rattle.calls.specs.Calls.{MendDone}
use Rattle.calls.proofs.Declines.{mend_passed, fits_on}
use Rattle.actions.proofs.Declining.{allowed_none}
use Rattle.actions.proofs.Exits.{mend_by_plan}
use Rattle.engine.proofs.Engine.mend.Goals as goal

pub mend_by-requires-clause-inside : goal.mend_by-requires-clause-inside
mend_by-requires-clause-inside g c =
    let m = g.S.Store.meaning c.args.store.now in
    let q = mend_passed g.F.NumberedField.size (g.C.Code.code c.args.self.now.code) (g.S.Store.meaning c.args.store.now) c.args.node (length c.args.memory.now) (allowed_none c.mend_decline.ensures c.in_ok-map_err.ensures.variant) in
    let w = (g.met.C.Code.lawful c.args.self.now.code) q.0 in
    let v = w.mends (blanks (g.S.Store.meaning c.args.store.now)) c.args.node 0 q.2 w.some_row in
    λ i j l. let b = v.inside i j (ap (λ es. listed (places_of es) (at i j)) (sym c.mend_plan-plan.ensures.entries) ∙ l) in fits_on (g.C.Code.code c.args.self.now.code) m i j q.1 b.0 b.1

pub returns-clause-done : goal.returns-clause-done
unfolding MendDone
returns-clause-done g c =
    mend_by_plan g.F.Field.ops.zero (g.C.Code.code c.args.self.now.code) (g.S.Store.meaning c.args.store.now) c.args.node _ (allowed_none c.mend_decline.ensures c.in_ok-map_err.ensures.variant) c.rows.result c.rows.ensures (g.C.MendPlan.Listing.entries c.mend_plan-plan.result) (g.C.MendPlan.Solver.solved c.mend_plan-plan.result) c.mend_plan-plan.ensures.entries c.mend_plan-plan.ensures.solved c.mend_by.result (g.S.Store.meaning c.mend_by.new.store) c.mend_by.ensures.done
