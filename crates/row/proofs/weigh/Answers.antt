use Rattle.std.proofs.Common.{ℕ, length, get_or, ◌∙◌}
use Rattle.std.proofs.lemmas.List.{length_push}
use Rattle.std.proofs.lemmas.Slice.Zip.{zip_turn, zip_end}
use Rattle.row.proofs.Lagrange.{sum_more}
use Rattle.row.proofs.Rules.{weighed_pairs}
use Rattle.row.proofs.weigh.Goals as goal

pub loop-weight-preserved : goal.loop-weight-preserved
loop-weight-preserved g c =
    let o = g.F.Field.ops in
    let values = c.args.values.now in
    let weights = c.args.weights.now in
    let n = length c.loop-weight.yielded in
    let t = zip_turn weights values c.loop-weight.yielded _ _ c.next.new.self _ (cc) (cc) c.loop-weight.yielded_by (c.in-Some.weight, c.in-Some.value) c.in-Some.is c.next.ensures.steps in
    let w = t.2 o.zero in
    let v = t.3 o.zero in
    let e = sum_more o n (λ (i : ℕ). o.product (get_or values i o.zero) (get_or weights i o.zero)) in
    let p = length_push c.loop-weight.yielded (c.in-Some.weight, c.in-Some.value) in
    cc

pub returns : goal.returns
returns g c =
    let values = c.args.values.now in
    let weights = c.args.weights.now in
    let e = zip_end weights values c.loop-weight.yielded _ _ c.next.new.self _ (cc) (cc) c.loop-weight.yielded_by c.in-None.is c.next.ensures.steps in
    c.loop-weight.invariant ∙ weighed_pairs g.met.F.Field.laws weights values _ e
