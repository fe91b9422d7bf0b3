use Rattle.std.proofs.Common.{◌≡◌}
use Rattle.sheet.specs.Entries.{left}
use Rattle.reading.specs.Checks.{checked}
use Rattle.reading.proofs.checks.check.Given as goal

-- the check of the entries that are left decides
abbrev pub invariant-loop-entry : goal.invariant-loop-entry
invariant-loop-entry g l = checked l.call (g.S.Store.meaning l.store) (left l.entry-iterator) ≡ checked l.call (g.S.Store.meaning l.store) (g.L.Listing.entries l.listing)
