use Rattle.std.proofs.Common.{length, sym, ◌∙◌, subst}
use Rattle.std.proofs.lemmas.Iterator.{YieldsList-from_slice}
use Rattle.std.proofs.lemmas.Iterator.Consumers.{YieldsList-from_copied, YieldsList-end}
use Rattle.std.proofs.lemmas.List.{map-id}
use Rattle.tour.specs.Tour.{Onward}
use Rattle.tour.proofs.Reaching.{onward_none, onward_more}
use Rattle.tour.proofs.run.Goals as goal

pub loop-call-init : goal.loop-call-init
loop-call-init g c = onward_none g.F.Field.ops g.F.NumberedField.size (g.C.Code.code c.args.engine.now.code) (g.S.Store.meaning c.args.store.now)

pub loop-call-preserved : goal.loop-call-preserved
loop-call-preserved g c =
    onward_more g.F.Field.ops g.F.NumberedField.size (g.C.Code.code c.args.engine.now.code) c.loop-call.yielded c.in-Some.call (g.S.Store.meaning c.args.store.now) (g.S.Store.meaning c.loop-call.store) (g.S.Store.meaning c.serve-answer.new.store) (length c.loop-call.memory) c.serve-answer.result c.loop-call.invariant c.serve-answer.ensures.history

pub returns : goal.returns
returns g c =
    let all = YieldsList-end (YieldsList-from_copied (YieldsList-from_slice c.args.calls.now cc)) c.loop-call.yielded _ c.loop-call.yielded_by _ _ c.in-None.is c.next.ensures.steps in
    subst (λ cs. Onward g.F.Field.ops g.F.NumberedField.size (g.C.Code.code c.args.engine.now.code) cs (g.S.Store.meaning c.args.store.now) (g.S.Store.meaning c.loop-call.store)) (sym (map-id c.loop-call.yielded) ∙ all.0) c.loop-call.invariant
