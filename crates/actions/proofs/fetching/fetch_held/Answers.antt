use Rattle.std.proofs.Common.{Ok, Err, sym, refl, ap, ◌∙◌}
use Rattle.std.proofs.lemmas.Result.{err_from_is_err_and}
use Rattle.sheet.specs.Places.{sheet_of}
use Rattle.calls.specs.Reading.{raised}
use Rattle.calls.specs.Calls.{FetchedBy, held, found}
use Rattle.calls.specs.declared.call.CallName.TheVariants.{Fetch}
use Rattle.actions.proofs.Exits.{sheet_unread, sheet_read, memory_kept, memory_wiped, held_found, held_raised, held_inside, held_readable}
use Rattle.actions.proofs.fetching.fetch_held.Goals as goal

pub returns-in_err-probe_entry : goal.returns-in_err-probe_entry
unfolding FetchedBy held
returns-in_err-probe_entry g c =
    let z = g.F.Field.ops.zero in
    let p = err_from_is_err_and c.from_residual.result c.from_residual.ensures.1 in
    record {
      done = sheet_unread Fetch (g.S.Store.meaning c.args.store.now) (held {F = g.row.F.Denot} c.args.row c.args.column).entries (found z (g.S.Store.meaning c.args.store.now) (held c.args.row c.args.column) c.args.row) (raised (g.S.Store.meaning c.args.store.now) (sheet_of (held {F = g.row.F.Denot} c.args.row c.args.column).entries)) (held_inside (g.S.Store.meaning c.args.store.now) c.args.row c.args.column c.requires) c.in_err-probe_entry.field-0.0 c.from_residual.result (g.S.Store.meaning c.args.store.now) c.in_err-probe_entry.ensures (p.1 ∙ ap Err p.2) refl;
      memory = memory_kept z p.0 c.from_residual.result c.args.memory.now p.1;
    }

pub read_place-symbol-requires : goal.read_place-symbol-requires
read_place-symbol-requires g c = held_readable (g.S.Store.meaning c.args.store.now) c.args.row c.args.column c.in_ok-probe_entry.ensures

pub returns : goal.returns
unfolding FetchedBy held
returns g c =
    let z = g.F.Field.ops.zero in
    record {
      done = sheet_read Fetch (g.S.Store.meaning c.args.store.now) (held {F = g.row.F.Denot} c.args.row c.args.column).entries (found z (g.S.Store.meaning c.args.store.now) (held c.args.row c.args.column) c.args.row) (raised (g.S.Store.meaning c.args.store.now) (sheet_of (held {F = g.row.F.Denot} c.args.row c.args.column).entries)) (Ok (record { count = 1; symbol = c.read_place-symbol.result })) (g.S.Store.meaning c.read_place-symbol.new.store) c.in_ok-probe_entry.ensures (ap (λ s. Ok (record { count = 1; symbol = s })) c.read_place-symbol.ensures.answer ∙ ap Ok (sym (held_found z (g.S.Store.meaning c.args.store.now) c.args.row c.args.column))) (c.read_place-symbol.ensures.leaves ∙ held_raised z (g.S.Store.meaning c.args.store.now) c.args.row c.args.column);
      memory = memory_wiped z (record { count = 1; symbol = c.read_place-symbol.result }) (Ok (record { count = 1; symbol = c.read_place-symbol.result })) c.args.memory.now c.args.memory.now c.wipe.new.memory refl c.wipe.ensures refl;
    }
