use Rattle.std.proofs.Common.{◌≡◌}
use Rattle.calls.specs.Reading.{blank_below}
use Rattle.actions.proofs.writing.clear_nodes.Given as goal

abbrev pub invariant-loop-node : goal.invariant-loop-node
invariant-loop-node g l = g.S.Store.meaning l.store ≡ blank_below l.node (g.S.Store.meaning l.initial.store)
