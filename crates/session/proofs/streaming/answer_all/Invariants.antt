use Rattle.std.proofs.Common.{◌≡◌, length, vec_items}
use Rattle.session.proofs.Whole.{Streaming}
use Rattle.session.proofs.streaming.answer_all.Given as goal

-- what was read so far is answered, and the answers are written
abbrev pub invariant-loop : goal.invariant-loop
invariant-loop g l =
    (length l.chunk ≡ g.row.N)
    × Streaming g.T.Answerer.answers (g.R.Read.remaining l.initial.input) (g.W.Write.contents l.initial.output) l.initial.answerer (vec_items l.feed.held) (g.R.Read.remaining l.input) (g.W.Write.contents l.output) l.answerer
