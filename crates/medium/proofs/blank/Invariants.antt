use Rattle.std.proofs.Common.{◌≡◌, ℕ, ◌*◌, ◌<◌, ◌≤◌, cond, ◌⊎◌, ◌&&◌, ltb, leb, None}
use Rattle.store.specs.Beyond.{Beyond}
use Rattle.medium.proofs.blank.Given as goal

abbrev pub invariant-loop-spot : goal.invariant-loop-spot
invariant-loop-spot g l = record {
  symbols : (k : ℕ) → g.M.Medium.symbols l.units k ≡ cond (leb l.start k && ltb k l.spot) None (g.M.Medium.symbols l.initial.units k);
  meters : (k : ℕ) → g.M.Medium.meters l.units k ≡ cond (leb l.start k && ltb k l.spot) 0 (g.M.Medium.meters l.initial.units k);
  counts : (k : ℕ) → g.M.Medium.counts l.units k ≡ cond (leb l.start k && ltb k l.spot) 0 (g.M.Medium.counts l.initial.units k);
  rest : (k : ℕ) → ((k < l.start) ⊎ (l.spot ≤ k)) → g.M.Medium.rest l.units k ≡ g.M.Medium.rest l.initial.units k;
  bare : (k : ℕ) → l.start ≤ k → k < l.spot → g.M.Medium.Bare l.units k;
  beyond : Beyond (g.M.Medium.each * l.spot) l.initial.units l.units;
}
