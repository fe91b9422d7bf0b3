use Rattle.std.proofs.Common.{◌+◌, ◌*◌, ◌∙◌, arith}
use Rattle.std.proofs.lemmas.Bool.Decides.{nat_tests}
use Rattle.std.proofs.lemmas.Nat.{mul-le}
use Rattle.store.proofs.Rest.{beyond_then}
use Rattle.medium.proofs.rewind.Goals as goal

pub loop-spot-preserved : goal.loop-spot-preserved
loop-spot-preserved g c =
    let each = g.M.Medium.each in
    let spot = c.loop-spot.spot in
    record {
      symbols = λ k. c.rewind.ensures.symbols k ∙ c.loop-spot.invariant.symbols k;
      meters = λ k. let e = c.rewind.ensures.meters k in let h = c.loop-spot.invariant.meters k in grind (arith, nat_tests);
      counts = λ k. let e = c.rewind.ensures.counts k in let h = c.loop-spot.invariant.counts k in grind (arith, nat_tests);
      rest = λ k. c.rewind.ensures.rest k ∙ c.loop-spot.invariant.rest k;
      beyond = beyond_then (each * spot) (each * (spot + 1)) c.args.units.now c.loop-spot.units c.rewind.new.units (mul-le each spot each (spot + 1) (omega arith) (omega arith)) c.loop-spot.invariant.beyond c.rewind.ensures.beyond;
    }
