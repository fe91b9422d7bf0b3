use Rattle.std.proofs.Common.{◌≡◌, ℕ, List, ◌∷◌, ◌++◌, Some, take, string_bytes}
use Rattle.std.specs.List.{flat_map}
use Rattle.rebuilding.proofs.report.push_spaced.Given as goal

abbrev pub invariant-loop-item : goal.invariant-loop-item
invariant-loop-item g l =
    (text : g.row.D.Denot → List ℕ) → ((d : g.row.D.Denot) → g.D.Display.output d ≡ Some (text d))
    → string_bytes l.out ≡ string_bytes l.initial.out ++ flat_map (λ d. 32 ∷ text d) (take l.item-index l.items)
