use Rattle.std.proofs.Common.{◌≡◌, ◌++◌}
use Rattle.sheet.specs.Entries.{left}
use Rattle.sheet.specs.Places.{places_of}
use Rattle.reading.proofs.Gathering.{Filled}
use Rattle.reading.proofs.slots.fill.Given as goal

abbrev pub invariant-loop-entry : goal.invariant-loop-entry
invariant-loop-entry g l = record {
  whole : l.yielded ++ left l.entry-iterator ≡ g.P.Listing.entries l.plan;
  filled : Filled g.F.Field.ops.zero (g.S.Store.meaning l.initial.store) (g.P.ReadPlan.slot l.plan) (places_of l.yielded) (g.S.Store.meaning l.store) l.memory l.count;
}
