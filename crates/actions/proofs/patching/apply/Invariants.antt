use Rattle.std.proofs.Common.{◌≡◌, ◌++◌}
use Rattle.sheet.specs.Entries.{left}
use Rattle.sheet.specs.Places.{places_of}
use Rattle.actions.proofs.Changing.{Front}
use Rattle.actions.proofs.patching.apply.Given as goal

abbrev pub invariant-loop-entry : goal.invariant-loop-entry
invariant-loop-entry g l = record {
  whole : l.yielded ++ left l.entry-iterator ≡ g.P.Listing.entries l.patch;
  front : Front g.F.Field.ops (g.S.Store.meaning l.initial.store) (places_of (g.P.Listing.entries l.patch)) (g.P.Patch.weight l.patch) l.x (places_of l.yielded) (g.S.Store.meaning l.store) l.first;
}
