use Rattle.std.proofs.Common.{length, sym, ap, ◌∙◌, arith}
use Rattle.sheet.specs.Places.{at, listed, places_of}
use Rattle.code.specs.Codes.{blanks}
use Rattle.calls.specs.Calls.{FetchDone}
use Rattle.calls.proofs.Declines.{fetch_passed, fits_on}
use Rattle.actions.proofs.Declining.{allowed_none}
use Rattle.actions.proofs.Exits.{slotted_more, fetch_blank, fetch_held}
use Rattle.engine.proofs.Engine.fetch.Goals as goal

pub is_blank-requires : goal.is_blank-requires
is_blank-requires g c =
    let q = fetch_passed g.F.NumberedField.size (g.C.Code.code c.args.self.now.code) (g.S.Store.meaning c.args.store.now) c.args.row c.args.column (length c.args.memory.now) (allowed_none c.fetch_decline.ensures c.in_ok-map_err.ensures.variant) in
    let wide = ((g.met.C.Code.lawful c.args.self.now.code) q.0).wide in
    fits_on (g.C.Code.code c.args.self.now.code) (g.S.Store.meaning c.args.store.now) c.args.row c.args.column q.1 q.2 (omega (arith, q.3, wide))

pub fetch_by-requires-clause-inside : goal.fetch_by-requires-clause-inside
fetch_by-requires-clause-inside g c =
    let m = g.S.Store.meaning c.args.store.now in
    let q = fetch_passed g.F.NumberedField.size (g.C.Code.code c.args.self.now.code) (g.S.Store.meaning c.args.store.now) c.args.row c.args.column (length c.args.memory.now) (allowed_none c.fetch_decline.ensures c.in_ok-map_err.ensures.variant) in
    let v = ((g.met.C.Code.lawful c.args.self.now.code) q.0).fetches (blanks (g.S.Store.meaning c.args.store.now)) c.args.row c.args.column q.2 q.3 in
    λ i j l. let b = v.inside i j (ap (λ es. listed (places_of es) (at i j)) (sym c.fetch_plan-plan.ensures.entries) ∙ l) in fits_on (g.C.Code.code c.args.self.now.code) m i j q.1 b.0 b.1

pub fetch_by-requires-clause-slots : goal.fetch_by-requires-clause-slots
fetch_by-requires-clause-slots g c =
    let q = fetch_passed g.F.NumberedField.size (g.C.Code.code c.args.self.now.code) (g.S.Store.meaning c.args.store.now) c.args.row c.args.column (length c.args.memory.now) (allowed_none c.fetch_decline.ensures c.in_ok-map_err.ensures.variant) in
    slotted_more (g.C.FetchPlan.Listing.entries c.fetch_plan-plan.result) (g.C.FetchPlan.ReadPlan.slot c.fetch_plan-plan.result) (g.C.Code.code c.args.self.now.code).fetch_room (length c.args.memory.now) q.4 c.fetch_plan-plan.ensures.slots

pub fetch_held-requires : goal.fetch_held-requires
fetch_held-requires g c =
    let q = fetch_passed g.F.NumberedField.size (g.C.Code.code c.args.self.now.code) (g.S.Store.meaning c.args.store.now) c.args.row c.args.column (length c.args.memory.now) (allowed_none c.fetch_decline.ensures c.in_ok-map_err.ensures.variant) in
    let wide = ((g.met.C.Code.lawful c.args.self.now.code) q.0).wide in
    fits_on (g.C.Code.code c.args.self.now.code) (g.S.Store.meaning c.args.store.now) c.args.row c.args.column q.1 q.2 (omega (arith, q.3, wide))

pub returns-then-is_blank-clause-done : goal.returns-then-is_blank-clause-done
unfolding FetchDone
returns-then-is_blank-clause-done g c =
    fetch_blank g.F.Field.ops.zero (g.C.Code.code c.args.self.now.code) (g.S.Store.meaning c.args.store.now) c.args.row c.args.column _ (allowed_none c.fetch_decline.ensures c.in_ok-map_err.ensures.variant) c.fetch_by.result (g.S.Store.meaning c.fetch_by.new.store) (sym c.if-is_blank.ensures) (g.C.FetchPlan.Listing.entries c.fetch_plan-plan.result) (g.C.FetchPlan.Solver.solved c.fetch_plan-plan.result) c.fetch_plan-plan.ensures.entries c.fetch_plan-plan.ensures.solved c.fetch_by.ensures.done

pub returns-else-is_blank-clause-done : goal.returns-else-is_blank-clause-done
unfolding FetchDone
returns-else-is_blank-clause-done g c =
    fetch_held g.F.Field.ops.zero (g.C.Code.code c.args.self.now.code) (g.S.Store.meaning c.args.store.now) c.args.row c.args.column _ (allowed_none c.fetch_decline.ensures c.in_ok-map_err.ensures.variant) c.fetch_held.result (g.S.Store.meaning c.fetch_held.new.store) (sym c.if-is_blank.ensures) c.fetch_held.ensures.done
