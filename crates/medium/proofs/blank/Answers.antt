use Rattle.std.proofs.Common.{◌≢◌, ℕ, ◌+◌, ◌*◌, ◌<◌, ◌≤◌, ◌⊎◌, ◌∙◌, inl, inr, ⊎_elim, arith}
use Rattle.std.proofs.lemmas.Bool.{cases_lt}
use Rattle.std.proofs.lemmas.Bool.Decides.{nat_tests}
use Rattle.std.proofs.lemmas.Nat.{mul-le}
use Rattle.store.proofs.Rest.{beyond_then}
use Rattle.medium.proofs.blank.Goals as goal

-- a place off the longer run is not the last of it, and is off the shorter run
off_longer : (k start spot : ℕ) → start ≤ spot → ((k < start) ⊎ (spot + 1 ≤ k)) → (k ≢ spot) × ((k < start) ⊎ (spot ≤ k))
off_longer k start spot h (inl l) = (omega arith, inl l)
off_longer k start spot h (inr l) = (omega arith, inr (omega arith))

pub loop-spot-preserved : goal.loop-spot-preserved
loop-spot-preserved g c =
    let each = g.M.Medium.each in
    let spot = c.loop-spot.spot in
    record {
      symbols = λ k. let e = c.blank.ensures.symbols k in let h = c.loop-spot.invariant.symbols k in grind (arith, nat_tests);
      meters = λ k. let e = c.blank.ensures.meters k in let h = c.loop-spot.invariant.meters k in grind (arith, nat_tests);
      counts = λ k. let e = c.blank.ensures.counts k in let h = c.loop-spot.invariant.counts k in grind (arith, nat_tests);
      rest = λ k o. let a = off_longer k c.args.start spot c.loop-spot.auto.spot o in c.blank.ensures.rest k a.0 ∙ c.loop-spot.invariant.rest k a.1;
      bare = λ k a b. c.blank.ensures.bare k (⊎_elim (λ l. inr (c.loop-spot.invariant.bare k a l)) (λ l. inl (omega arith)) (cases_lt k spot));
      beyond = beyond_then (each * spot) (each * (spot + 1)) c.args.units.now c.loop-spot.units c.blank.new.units (mul-le each spot each (spot + 1) (omega arith) (omega arith)) c.loop-spot.invariant.beyond c.blank.ensures.beyond;
    }
