-- The numbers of the parts of a read sheet. Assumes nothing.
use Rattle.std.specs.Prelude.{ℕ}
use Rattle.sheet.specs.declared.place.Part.{Part}
use Rattle.sheet.specs.declared.place.Part.TheVariants.{First, Second, Third, Fourth}

abbrev pub part_number : Part → ℕ
part_number First = 1
part_number Second = 2
part_number Third = 3
part_number Fourth = 4
