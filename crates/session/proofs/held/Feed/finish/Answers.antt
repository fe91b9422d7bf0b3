use Rattle.std.proofs.Common.{length, vec_items, sym, ap, ◌∙◌, arith}
use Rattle.std.proofs.lemmas.List.{nil_from_length}
use Rattle.std.proofs.lemmas.Result.{IfOk-weaker}
use Rattle.std.proofs.lemmas.Bool.{eqb-true, eqb-false}
use Rattle.session.proofs.Feeds.{last_none, last_one}
use Rattle.session.proofs.held.Feed.finish.Goals as goal

pub returns-then-is_empty : goal.returns-then-is_empty
returns-then-is_empty g c =
    last_none g.T.Answerer.answers (vec_items c.args.self.now.held) (vec_items c.args.out.now) c.args.answerer.now
    (sym c.as_slice-last.ensures.value ∙ nil_from_length c.as_slice-last.result.now (eqb-true _ 0 (sym c.is_empty.ensures ∙ c.if-is_empty.true)))

pub returns : goal.returns
returns g c =
    IfOk-weaker c.answer.result _ _
    (λ _ said. last_one g.T.Answerer.answers (vec_items c.args.self.now.held) c.as_slice-last.result.now (vec_items c.args.out.now) (vec_items c.answer.new.out) c.args.answerer.now c.answer.new.self
    (omega (arith, eqb-false _ 0 (sym c.is_empty.ensures ∙ c.if-is_empty.false), ap length c.as_slice-last.ensures.value)) c.as_slice-last.ensures.value said)
    c.answer.ensures
