use Rattle.std.proofs.Common.{sym, ap, ◌∙◌, arith}
use Rattle.store.specs.Meaning.{Meaning, probed, read, written}
use Rattle.copying.proofs.Rows.{fault_none, drained_more, filled_more, never_declined}
use Rattle.copying.proofs.carry.Goals.{in-Ok, in_default}
use Rattle.copying.proofs.carry.Goals as goal

pub loop-row-preserved : goal.loop-row-preserved
loop-row-preserved g c =
    let m = g.P.Store.meaning c.args.from.now in
    let t = g.Q.Store.meaning c.args.to.now in
    let row = c.loop-row.row in
    let n = fault_none m c.args.source t c.args.target m.rows row c.requires (omega (arith, c.rows-rows.ensures)) in
    let e = c.read.ensures.answers ∙ ap (λ (k : Meaning _). probed k row c.args.source) c.loop-row.invariant.0 in (
      c.read.ensures.leaves ∙ (ap (λ (k : Meaning _). read k row c.args.source) c.loop-row.invariant.0 ∙ drained_more m c.args.source t c.args.target row n),
      elim c.match-read.branch [
        | in-Ok w ↦ ap g.Q.Store.meaning w.to-is ∙ (w.write.ensures.leaves ∙ (ap (λ (k : Meaning _). written k row c.args.target w.in-Ok.symbol) c.loop-row.invariant.1 ∙ filled_more m c.args.source t c.args.target row w.in-Ok.symbol n (sym w.in-Ok.is ∙ e)))
        | in_default w ↦ absurd (never_declined m c.args.source t c.args.target row w.in_default.field-0 n (sym w.in_default.is ∙ e))
      ],
    )
