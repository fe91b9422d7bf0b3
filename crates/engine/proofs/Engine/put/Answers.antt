use Rattle.std.proofs.Common.{length, Ok, Err, sym, refl, ap, ◌∙◌}
use Rattle.std.proofs.lemmas.Result.{err_from_is_err_and}
use Rattle.sheet.proofs.Lists.{places_length}
use Rattle.calls.specs.Calls.{PutDone}
use Rattle.calls.specs.declared.call.CallName.TheVariants.{Put}
use Rattle.calls.proofs.Declines.{put_passed, fits_on}
use Rattle.reading.specs.Checks.{checked}
use Rattle.reading.proofs.Checking.{checked_clear}
use Rattle.actions.proofs.Declining.{allowed_none}
use Rattle.actions.proofs.Changing.{patched_is}
use Rattle.actions.proofs.Exits.{sheet_open, sheet_unread, sheet_read}
use Rattle.engine.proofs.Engine.put.Goals as goal

pub returns-in_err-check : goal.returns-in_err-check
unfolding PutDone
returns-in_err-check g c =
    let code = g.C.Code.code c.args.self.now.code in
    let m = g.S.Store.meaning c.args.store.now in
    let open_call = allowed_none c.put_decline.ensures c.in_ok-map_err.ensures.variant in
    let q = put_passed g.F.NumberedField.size (g.C.Code.code c.args.self.now.code) (g.S.Store.meaning c.args.store.now) c.args.row c.args.column open_call in
    let v = ((g.met.C.Code.lawful c.args.self.now.code) q.0).puts c.args.row c.args.column q.2 q.3 in
    let p = err_from_is_err_and c.from_residual-in_err-check.result c.from_residual-in_err-check.ensures.1 in
    sheet_open _ _ _ _ _ _ _ _ open_call
    (sheet_unread _ _ _ _ _ (λ i j l. let b = v.inside i j l in fits_on code m i j q.1 b.0 b.1) c.in_err-check.field-0.0 _ _ (c.in_err-check.ensures ∙ ap (checked Put m) c.put_patch-patch.ensures.entries) (p.1 ∙ ap Err p.2) refl)

pub apply-requires-clause-clear : goal.apply-requires-clause-clear
apply-requires-clause-clear g c = checked_clear Put (g.S.Store.meaning c.args.store.now) (g.C.Patch.Listing.entries c.put_patch-patch.result) (sym c.in_ok-check.ensures)

pub returns : goal.returns
unfolding PutDone
returns g c =
    let code = g.C.Code.code c.args.self.now.code in
    let m = g.S.Store.meaning c.args.store.now in
    let open_call = allowed_none c.put_decline.ensures c.in_ok-map_err.ensures.variant in
    let q = put_passed g.F.NumberedField.size (g.C.Code.code c.args.self.now.code) (g.S.Store.meaning c.args.store.now) c.args.row c.args.column open_call in
    let v = ((g.met.C.Code.lawful c.args.self.now.code) q.0).puts c.args.row c.args.column q.2 q.3 in
    sheet_open _ _ _ _ _ _ _ _ open_call
    (sheet_read _ _ _ _ _ _ _ (c.in_ok-check.ensures ∙ ap (checked Put m) c.put_patch-patch.ensures.entries)
    (ap Ok (c.apply.ensures.count ∙ ap length c.put_patch-patch.ensures.entries ∙ sym (places_length _)))
    (c.apply.ensures.leaves ∙ patched_is g.F.Field.ops m _ (g.C.Patch.Listing.entries c.put_patch-patch.result) (g.C.Patch.Patch.weight c.put_patch-patch.result) c.args.row c.args.column c.args.x c.put_patch-patch.ensures.entries c.put_patch-patch.ensures.weight v.first))
