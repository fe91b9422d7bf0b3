use Rattle.std.proofs.Common.{vec_items, ◌∙◌}
use Rattle.session.proofs.Feeds.{turn, stopped}
use Rattle.session.proofs.held.Feed.feed.Goals as goal

pub loop-front-preserved : goal.loop-front-preserved
loop-front-preserved g c =
    let cut = c.in-Some.ensures in
    turn g.T.Answerer.answers (vec_items c.args.self.now.held) c.args.chunk.now c.args.answerer.now (vec_items c.loop-front.self.held) c.loop-front.rest.now (vec_items c.args.out.now) (vec_items c.loop-front.out) (vec_items c.answer.new.out) c.in-Some.front.now c.in-Some.after.now c.as_slice.result.now (vec_items c.clear.new.self) c.loop-front.answerer c.answer.new.self
    c.loop-front.invariant c.loop-front.self.clean cut.0 cut.1 (c.as_slice.ensures.value ∙ c.in_ok-hold.ensures) c.in_ok-answer.ensures c.clear.ensures.items

pub returns : goal.returns
returns g c =
    stopped g.T.Answerer.answers (vec_items c.args.self.now.held) c.args.chunk.now c.args.answerer.now c.hold-2.result (vec_items c.loop-front.self.held) c.loop-front.rest.now (vec_items c.args.out.now) (vec_items c.loop-front.out) (vec_items c.hold-2.new.self.held) c.loop-front.answerer
    c.hold-2.ensures c.loop-front.invariant c.loop-front.self.clean c.in_default.ensures
