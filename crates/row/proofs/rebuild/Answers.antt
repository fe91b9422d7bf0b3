use Rattle.std.proofs.Common.{◌≡◌, ◌<◌, arith, Ok, Err}
use Rattle.std.proofs.lemmas.Bool.Decides.{nat_tests}
use Rattle.row.specs.declared.fault.RowFault.TheVariants.{Uneven, NoSymbol, Repeated}
use Rattle.row.specs.Answers.{rebuild_answer}
use Rattle.row.proofs.Listings.{beyond_any}
use Rattle.row.proofs.Rules.{any_give_all}
use Rattle.row.proofs.rebuild.Goals as goal
use Rattle.row.proofs.rebuild.Goals.{then-is_beyond-via-then-is_beyond, then-is_beyond-via-else-is_beyond+then-size-m}

pub returns-then-numbers-values : goal.returns-then-numbers-values
returns-then-numbers-values g c =
    let e : Err Uneven ≡ rebuild_answer g.F.Field.ops g.F.NumberedField.size g.F.NumberedField.symbol c.args.numbers.now c.args.values.now c.args.m = grind (arith, nat_tests) in
    record { answer = e; any = any_give_all g.met.F.Field.laws g.met.F.NumberedField.numbering _ _ _ _ e }

pub returns-then-is_beyond : goal.returns-then-is_beyond
returns-then-is_beyond g c =
    let b = beyond_any g.F.NumberedField.size c.args.numbers.now in
    let e : Err NoSymbol ≡ rebuild_answer g.F.Field.ops g.F.NumberedField.size g.F.NumberedField.symbol c.args.numbers.now c.args.values.now c.args.m
    = elim c.then-is_beyond.branch [
      | then-is_beyond-via-then-is_beyond w ↦ grind (arith, nat_tests)
      | then-is_beyond-via-else-is_beyond+then-size-m w ↦ grind (arith, nat_tests)
    ] in
    record { answer = e; any = any_give_all g.met.F.Field.laws g.met.F.NumberedField.numbering _ _ _ _ e }

pub returns-then-is_repeated : goal.returns-then-is_repeated
returns-then-is_repeated g c =
    let b = beyond_any g.F.NumberedField.size c.args.numbers.now in
    let below : c.args.m < g.F.NumberedField.size = omega arith in
    let e : Err Repeated ≡ rebuild_answer g.F.Field.ops g.F.NumberedField.size g.F.NumberedField.symbol c.args.numbers.now c.args.values.now c.args.m = grind (arith, nat_tests) in
    record { answer = e; any = any_give_all g.met.F.Field.laws g.met.F.NumberedField.numbering _ _ _ _ e }

pub returns : goal.returns
returns g c =
    let o = g.F.Field.ops in
    let numbers = c.args.numbers.now in
    let values = c.args.values.now in
    let b = beyond_any g.F.NumberedField.size numbers in
    let below : c.args.m < g.F.NumberedField.size = omega arith in
    let e : Ok c.interpolate.result ≡ rebuild_answer g.F.Field.ops g.F.NumberedField.size g.F.NumberedField.symbol numbers values c.args.m = grind (arith, nat_tests) in
    record { answer = e; any = any_give_all g.met.F.Field.laws g.met.F.NumberedField.numbering _ _ _ _ e }
