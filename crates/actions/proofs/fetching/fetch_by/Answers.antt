use Rattle.std.proofs.Common.{Ok, Err, sym, refl, ap, ◌∙◌, ap₂}
use Rattle.std.proofs.lemmas.Result.{err_from_is_err_and}
use Rattle.calls.specs.Calls.{FetchedBy, found, given_by}
use Rattle.calls.specs.declared.call.CallName.TheVariants.{Fetch}
use Rattle.reading.proofs.Checking.{checked_clear}
use Rattle.actions.proofs.Exits.{sheet_unread, sheet_read, memory_kept, memory_wiped}
use Rattle.actions.proofs.fetching.fetch_by.Goals as goal

pub returns-in_err-check : goal.returns-in_err-check
unfolding FetchedBy
returns-in_err-check g c =
    let p = err_from_is_err_and c.from_residual.result c.from_residual.ensures.1 in
    record {
      done = sheet_unread Fetch (g.S.Store.meaning c.args.store.now) (g.P.Listing.entries c.args.plan.now) _ _ c.requires.inside c.in_err-check.field-0.0 c.from_residual.result (g.S.Store.meaning c.args.store.now) c.in_err-check.ensures (p.1 ∙ ap Err p.2) refl;
      memory = memory_kept g.F.Field.ops.zero p.0 c.from_residual.result c.args.memory.now p.1;
    }

pub gather-count-requires : goal.gather-count-requires
gather-count-requires g c = record { clear = checked_clear Fetch (g.S.Store.meaning c.args.store.now) (g.P.Listing.entries c.args.plan.now) (sym c.in_ok-check.ensures); slots = c.requires.slots }

pub returns : goal.returns
unfolding FetchedBy found given_by
returns g c =
    let z = g.F.Field.ops.zero in
    let s = c.solve-symbol.ensures ∙ ap (λ t. g.P.Solver.solved c.args.plan.now t c.args.row) c.gather-count.ensures.table in
    record {
      done = sheet_read Fetch (g.S.Store.meaning c.args.store.now) (g.P.Listing.entries c.args.plan.now) _ _ _ (g.S.Store.meaning c.gather-count.new.store) c.in_ok-check.ensures (ap₂ (λ n x. Ok (record { count = n; symbol = x })) c.gather-count.ensures.count s) c.gather-count.ensures.leaves;
      memory = memory_wiped z _ _ c.args.memory.now c.gather-count.new.memory c.wipe.new.memory refl c.wipe.ensures c.gather-count.auto.memory;
    }
