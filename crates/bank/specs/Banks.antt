-- What a memory bank means, and the memory that it lies in. Assumes nothing.
use Rattle.std.specs.Prelude.{ℕ, ◌*◌, List}
use Rattle.std.specs.Borrow.{GName}
use Rattle.bank.specs.declared.bank.Bank.{Bank}
use Rattle.bank.specs.declared.cell.Cell.{Cell}
use Rattle.bank.specs.Cells.{kept}
use Rattle.store.specs.Meaning.{Meaning}

-- the whole of the memory that was lent
abbrev pub whole : {F : Type 0} → Bank F → List (Cell F)
whole b = b.cells.now

abbrev pub means : {F : Type 0} → Bank F → Meaning F
means b = kept b.shape.rows b.shape.nodes (whole b)

-- which memory it is
abbrev pub lender : {F : Type 0} → Bank F → GName
lender b = b.cells.ghost_name

-- how many cells of it are the store's
abbrev pub used : {F : Type 0} → Bank F → ℕ
used b = b.shape.rows * b.shape.nodes
