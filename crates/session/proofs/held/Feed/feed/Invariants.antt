use Rattle.std.proofs.Common.{length, vec_items}
use Rattle.session.specs.Runs.{Adds}
use Rattle.session.proofs.Feeds.{Going}
use Rattle.session.proofs.held.Feed.feed.Given as goal

abbrev pub invariant-loop-front : goal.invariant-loop-front
invariant-loop-front g l = Adds (vec_items l.initial.out) (vec_items l.out) (Going g.T.Answerer.answers (vec_items l.initial.self.held) l.chunk l.initial.answerer (vec_items l.self.held) l.rest l.answerer)

abbrev pub decreases-loop-front : goal.decreases-loop-front
decreases-loop-front g l = length l.rest
