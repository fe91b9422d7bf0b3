use Rattle.std.proofs.Common.{◌≡◌, ◌+◌, ◌-◌, ◌*◌, ◌≤◌}
use Rattle.store.specs.Meaning.{total}
use Rattle.medium.proofs.worn.Given as goal

abbrev pub invariant-loop-spot : goal.invariant-loop-spot
invariant-loop-spot g l = (l.sum ≡ total (λ k. g.M.Medium.meters l.units (l.start + k)) (l.spot - l.start)) × (l.sum ≤ 65535 * (l.spot - l.start))
