use Rattle.std.proofs.Common.{◌≡◌, ◌<◌, length, take, vec_items, ap, subst, arith}
use Rattle.std.specs.Io.KnownBytes.{Appends}
use Rattle.std.proofs.lemmas.Result.{IfOk-weaker}
use Rattle.session.proofs.Whole.{waits, goes, stops}
use Rattle.session.proofs.streaming.answer_all.Goals as goal
use Rattle.session.proofs.streaming.answer_all.Goals.{in-Ok+in_ok-feed-in-Ok+in_ok-write_all-in-Ok, in-Err+else-ne}

pub returns-in-Ok-eq0 : goal.returns-in-Ok-eq0
returns-in-Ok-eq0 g c =
    let none : c.in-Ok-eq0.field-0 ≡ 0 = omega arith in
    let some : 0 < length c.read.new.buf = omega (arith, c.read.auto.buf, c.loop.invariant.0, c.requires.some) in
    IfOk-weaker c.write_all.result _ _
    (λ _ more. stops g.T.Answerer.answers (g.R.Read.remaining c.args.input.now) (g.W.Write.contents c.args.output.now) c.args.answerer.now
    (vec_items c.loop.feed.held) (take c.in-Ok-eq0.field-0 c.read.new.buf) (vec_items c.clear.new.self) (vec_items c.finish.new.out)
    (g.R.Read.remaining c.loop.input) (g.R.Read.remaining c.read.new.self) (g.W.Write.contents c.loop.output) (g.W.Write.contents c.write_all.new.self) c.loop.answerer c.finish.new.answerer
    c.loop.invariant.1 c.in-Ok-eq0.ensures.bytes.0 (ap (λ k. take k c.read.new.buf) none) (c.in-Ok-eq0.ensures.bytes.1 none some) c.clear.ensures.items c.in_ok-finish-in-Ok-eq0.ensures
    (subst (Appends (g.W.Write.contents c.loop.output) (g.W.Write.contents c.write_all.new.self)) c.as_slice.ensures.value more))
    c.write_all.ensures.bytes

pub loop-preserved : goal.loop-preserved
loop-preserved g c = (
  omega (arith, c.read.auto.buf, c.loop.invariant.0),
  elim c.match-read.branch [
    | in-Ok+in_ok-feed-in-Ok+in_ok-write_all-in-Ok w ↦ rw (w.feed-is, w.output-is, w.answerer-is)
        (goes g.T.Answerer.answers (g.R.Read.remaining c.args.input.now) (g.W.Write.contents c.args.output.now) c.args.answerer.now
        (vec_items c.loop.feed.held) (vec_items w.feed.new.self.held) (take w.in-Ok.n c.read.new.buf) (vec_items w.clear-in-Ok.new.self) (vec_items w.feed.new.out)
        (g.R.Read.remaining c.loop.input) (g.R.Read.remaining c.read.new.self) (g.W.Write.contents c.loop.output) (g.W.Write.contents w.write_all-in-Ok.new.self) c.loop.answerer w.feed.new.answerer
        c.loop.invariant.1 w.in-Ok.ensures.bytes.0 w.clear-in-Ok.ensures.items w.in_ok-feed-in-Ok.ensures
        (subst (Appends (g.W.Write.contents c.loop.output) (g.W.Write.contents w.write_all-in-Ok.new.self)) w.as_slice-in-Ok.ensures.value w.in_ok-write_all-in-Ok.ensures.bytes))
    | in-Err+else-ne w ↦ rw (w.feed-is, w.output-is, w.answerer-is)
        (waits g.T.Answerer.answers (g.R.Read.remaining c.args.input.now) (g.W.Write.contents c.args.output.now) c.args.answerer.now
        (vec_items c.loop.feed.held) (g.R.Read.remaining c.loop.input) (g.R.Read.remaining c.read.new.self) (g.W.Write.contents c.loop.output) c.loop.answerer c.loop.invariant.1 w.in-Err.ensures.bytes)
  ],
)
