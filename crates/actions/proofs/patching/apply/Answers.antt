use Rattle.std.proofs.Common.{ap, ◌∙◌, rules}
use Rattle.sheet.specs.Places.{places_of}
use Rattle.actions.proofs.Changing.{front_none, front_more, front_difference, front_readable, front_all, on_patch, whole_more}
use Rattle.actions.proofs.patching.apply.Goals as goal

pub loop-entry-init : goal.loop-entry-init
loop-entry-init g c = record { whole = search rules; front = front_none (places_of (g.P.Listing.entries c.args.patch.now)) }

pub read_place-old-requires : goal.read_place-old-requires
read_place-old-requires g c = front_readable c.loop-entry.yielded c.requires.clear c.requires.once c.loop-entry.invariant.whole c.in-Some.ensures.steps c.loop-entry.invariant.front

pub weight-requires : goal.weight-requires
weight-requires g c = on_patch c.loop-entry.yielded c.requires.clear c.requires.once c.loop-entry.invariant.whole c.in-Some.ensures.steps c.loop-entry.invariant.front

pub loop-entry-preserved : goal.loop-entry-preserved
loop-entry-preserved g c =
    let known = front_difference c.loop-entry.yielded c.requires.clear c.requires.once c.loop-entry.invariant.whole c.in-Some.ensures.steps c.loop-entry.invariant.front c.read_place-old.result c.unwrap_or_else-difference.result c.read_place-old.ensures.answer (search rules) in
    record {
      whole = whole_more c.loop-entry.yielded c.requires.clear c.requires.once c.loop-entry.invariant.whole c.in-Some.ensures.steps c.loop-entry.invariant.front;
      front = front_more c.loop-entry.yielded c.requires.clear c.requires.once c.loop-entry.invariant.whole c.in-Some.ensures.steps c.loop-entry.invariant.front (g.S.Store.meaning c.read_place-old.new.store) (g.S.Store.meaning c.write-written.new.self) c.read_place-old.result c.sum.result c.unwrap_or_else-difference.result c.read_place-old.ensures.leaves c.read_place-old.ensures.answer known (c.sum.ensures ∙ ap (g.F.Field.ops.sum c.read_place-old.result) (c.product-change.ensures ∙ ap (λ w. g.F.Field.ops.product w c.unwrap_or_else-difference.result) c.weight.ensures)) c.write-written.ensures.leaves;
    }

pub returns-clause-leaves : goal.returns-clause-leaves
returns-clause-leaves g c = front_all c.loop-entry.yielded c.loop-entry.invariant.whole c.in-None.ensures.steps.0 c.loop-entry.invariant.front
