use Rattle.std.proofs.Common.{◌∙◌, ap, length, rules}
use Rattle.text.specs.Walk.{to_come}
use Rattle.text.proofs.Laws.{cut_part, parts_one}
use Rattle.text.proofs.parts.PartsIterator.next.Goals as goal

pub returns-in-Some-clause-steps : goal.returns-in-Some-clause-steps
returns-in-Some-clause-steps g c = ap (to_come g.row.AT) c.in_ok-rest.was ∙ cut_part g.row.AT c.in_ok-rest.rest.now c.in-Some.part.now c.in-Some.after.now c.in-Some.ensures

pub returns-in-Some-clause-goes : goal.returns-in-Some-clause-goes
returns-in-Some-clause-goes g c =
    let cut = ap length (ap (to_come g.row.AT) c.in_ok-rest.was ∙ cut_part g.row.AT c.in_ok-rest.rest.now c.in-Some.part.now c.in-Some.after.now c.in-Some.ensures) in search rules

pub returns-in-None-clause-steps : goal.returns-in-None-clause-steps
returns-in-None-clause-steps g c = ap (to_come g.row.AT) c.in_ok-rest.was ∙ parts_one g.row.AT c.in_ok-rest.rest.now c.in-None.ensures
