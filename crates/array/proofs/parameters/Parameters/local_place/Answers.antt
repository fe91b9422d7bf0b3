use Rattle.std.proofs.Common.{◌+◌, refl, ap, ◌∙◌, arith}
use Rattle.array.specs.Layout.{wrap, step_node}
use Rattle.array.proofs.Indexed.{local_last, local_next, local_past, local_read}
use Rattle.array.proofs.parameters.Parameters.local_place.Goals as goal

pub returns-in-0 : goal.returns-in-0
returns-in-0 c =
    let s = c.args.self in
    let x = c.args.x in
    let i = c.args.row in
    local_read s x i c.args.l _ _ _ _ (local_last s x i c.args.l c.in-0.is) refl (c.step_node.ensures ∙ ap (step_node s) c.steps.ensures)

pub returns-in-1 : goal.returns-in-1
returns-in-1 c =
    let s = c.args.self in
    let x = c.args.x in
    let i = c.args.row in
    local_read s x i c.args.l _ _ _ _ (local_next s x i c.args.l c.in-1.is) (c.wrap.ensures ∙ ap (λ t. wrap s (i + t)) c.steps-in-1.ensures) refl

pub returns-in_default : goal.returns-in_default
returns-in_default c =
    let s = c.args.self in
    let x = c.args.x in
    let i = c.args.row in
    local_read s x i c.args.l _ _ _ _ (local_past s x i c.args.l (omega arith) (omega arith)) refl (c.wrap-in_default.ensures ∙ ap (λ t. wrap s (i + t)) c.skip.ensures)
