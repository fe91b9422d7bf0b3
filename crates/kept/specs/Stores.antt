-- What the stores that own their memory mean: 32 rows and 93 nodes of it. Assumes nothing.
use Rattle.std.specs.Prelude.{ℕ, List, vec_items, Option}
use Rattle.store.specs.Meaning.{Meaning}
use Rattle.bank.specs.Cells.{kept}
use Rattle.bank.specs.declared.cell.Cell.{Cell}
use Rattle.image.specs.Bytes.{imaged}
use Rattle.kept.specs.declared.holding.KeptBank.{KeptBank}
use Rattle.kept.specs.declared.holding.KeptImage.{KeptImage}

-- cells as a bank
abbrev pub banked : {F : Type 0} → List (Cell F) → Meaning F
banked cells = kept 32 93 cells

-- bytes as a card image
abbrev pub carded : {F : Type 0} → (ℕ → Option F) → List ℕ → Meaning F
carded symbol bytes = imaged symbol 32 93 bytes

abbrev pub bank_means : {F : Type 0} → KeptBank F → Meaning F
bank_means s = banked (vec_items s.cells)

abbrev pub image_means : {F : Type 0} → (ℕ → Option F) → KeptImage F → Meaning F
image_means symbol s = carded symbol (vec_items s.bytes)
