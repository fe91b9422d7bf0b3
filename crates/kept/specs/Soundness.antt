-- Every store that owns its memory means a sound store, whatever its memory holds.
use Rattle.std.specs.Prelude.{ℕ, ◌*◌, min, vec_items, Option}
use Rattle.std.proofs.Common.{arith}
use Rattle.store.specs.Meaning.{Sound}
use Rattle.store.proofs.Lay.{laid_sound}
use Rattle.bank.specs.Cells.{cell}
use Rattle.image.specs.Bytes.{four, holds, wear}
use Rattle.kept.specs.declared.holding.KeptBank.{KeptBank}
use Rattle.kept.specs.declared.holding.KeptImage.{KeptImage}
use Rattle.kept.specs.Stores.{bank_means, image_means}

pub kept_bank_sound : {F : Type 0} (s : KeptBank F) → Sound (bank_means s)
kept_bank_sound s = laid_sound 32 93 1000 (λ k. (cell (vec_items s.cells) k).symbol) (λ k. min (cell (vec_items s.cells) k).meter 1000) (omega arith) (omega arith) (omega arith) (omega arith) (omega arith) (omega arith) (λ k. omega arith)

pub kept_image_sound : {F : Type 0} (symbol : ℕ → Option F) (s : KeptImage F) → Sound (image_means symbol s)
kept_image_sound symbol s = laid_sound 32 93 250 (λ k. holds symbol (four (vec_items s.bytes) (4 * k))) (λ k. wear (four (vec_items s.bytes) (4 * k))) (omega arith) (omega arith) (omega arith) (omega arith) (omega arith) (omega arith) (λ k. omega arith)
