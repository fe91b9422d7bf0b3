-- The entries of a listing that are still to come. Assumes nothing.
use Rattle.std.specs.Prelude.{List, drop}
use Rattle.sheet.specs.declared.place.Entry.{Entry}
use Rattle.sheet.specs.declared.entries.Entries.{Entries}

abbrev pub left : {L : Type 0} {listing : _} → Entries L listing → List Entry
left {listing = listing} s = drop s.places.start (listing.entries s.listing.now)
