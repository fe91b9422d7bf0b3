use Rattle.std.proofs.Common.{Ok, Err, sym, refl, ap, ◌∙◌, ap₂, arith}
use Rattle.std.proofs.lemmas.Result.{err_from_is_err_and}
use Rattle.sheet.specs.Places.{sheet_of}
use Rattle.calls.specs.Reading.{painted, in_node}
use Rattle.calls.specs.Calls.{given_by}
use Rattle.calls.specs.declared.call.CallName.TheVariants.{Mend}
use Rattle.reading.proofs.Checking.{checked_clear}
use Rattle.actions.proofs.Exits.{sheet_unread, sheet_read, memory_kept, memory_wiped, raised_sizes}
use Rattle.actions.proofs.mending.mend_by.Goals as goal

pub returns-in_err-check : goal.returns-in_err-check
returns-in_err-check g c =
    let p = err_from_is_err_and c.from_residual.result c.from_residual.ensures.1 in
    record {
      done = sheet_unread Mend (g.S.Store.meaning c.args.store.now) (g.P.Listing.entries c.args.plan.now) _ _ c.requires.inside c.in_err-check.field-0.0 c.from_residual.result (g.S.Store.meaning c.args.store.now) c.in_err-check.ensures (p.1 ∙ ap Err p.2) refl;
      memory = memory_kept g.F.Field.ops.zero p.0 c.from_residual.result c.args.memory.now p.1;
    }

pub gather-count-requires : goal.gather-count-requires
gather-count-requires g c = record { clear = checked_clear Mend (g.S.Store.meaning c.args.store.now) (g.P.Listing.entries c.args.plan.now) (sym c.in_ok-check.ensures); slots = c.requires.slots }

pub write_node-requires : goal.write_node-requires
write_node-requires g c =
    let s = raised_sizes (g.S.Store.meaning c.args.store.now) (g.S.Store.meaning c.gather-count.new.store) (sheet_of (g.P.Listing.entries c.args.plan.now)) c.gather-count.ensures.leaves in
    record { room = (omega (arith, c.requires.room.0, s.0), omega (arith, c.requires.room.1, s.1)); ready = c.requires.ready }

pub returns : goal.returns
unfolding given_by
returns g c =
    let z = g.F.Field.ops.zero in
    record {
      done = sheet_read Mend (g.S.Store.meaning c.args.store.now) (g.P.Listing.entries c.args.plan.now) _ _ _ (g.S.Store.meaning c.write_node.new.store) c.in_ok-check.ensures (ap Ok c.gather-count.ensures.count)
          (c.write_node.ensures ∙ ap₂ (λ x t. painted x (in_node c.args.rows c.args.node) (λ i _. g.P.Solver.solved c.args.plan.now t i)) c.gather-count.ensures.leaves c.gather-count.ensures.table);
      memory = memory_wiped z _ _ c.args.memory.now c.gather-count.new.memory c.wipe.new.memory refl c.wipe.ensures c.gather-count.auto.memory;
    }
