use Rattle.array.proofs.Size.{sized, sized_rows}
use Rattle.array.proofs.Restoring.{sized_class_a, sized_class_b, parity_places}
use Rattle.array.proofs.Standing.{stands}
use Rattle.array.proofs.Slots.{slots}
use Rattle.array.proofs.sheets_stand.Goals as goal

pub returns : goal.returns
returns c = record { sizes = (sized, sized_rows, sized_class_a, sized_class_b); places = (parity_places, stands); slots = slots }
