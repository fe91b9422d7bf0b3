-- What a card image means, and the memory that it lies in. Assumes nothing.
use Rattle.std.specs.Prelude.{ℕ, ◌*◌, List, Option}
use Rattle.std.specs.Borrow.{GName}
use Rattle.store.specs.Meaning.{Meaning}
use Rattle.image.specs.declared.image.CardImage.{CardImage}
use Rattle.image.specs.Bytes.{imaged}

-- the whole of the memory that was lent
abbrev pub whole : {F : Type 0} → CardImage F → List ℕ
whole c = c.bytes.now

-- which memory it is
abbrev pub lender : {F : Type 0} → CardImage F → GName
lender c = c.bytes.ghost_name

-- how many bytes of it are the store's
abbrev pub used : {F : Type 0} → CardImage F → ℕ
used c = 4 * (c.shape.rows * c.shape.nodes)

abbrev pub means : {F : Type 0} → (ℕ → Option F) → CardImage F → Meaning F
means symbol c = imaged symbol c.shape.rows c.shape.nodes (whole c)
