-- Every card image means a sound store, whatever its bytes are.
use Rattle.std.specs.Prelude.{ℕ, ◌*◌, Option}
use Rattle.std.proofs.Common.{arith}
use Rattle.store.specs.Meaning.{Sound}
use Rattle.store.proofs.Lay.{laid_sound}
use Rattle.image.specs.declared.image.CardImage.{CardImage}
use Rattle.image.specs.Bytes.{four, holds, wear}
use Rattle.image.specs.Images.{means, whole}

pub image_sound : {F : Type 0} (symbol : ℕ → Option F) (c : CardImage F) → Sound (means symbol c)
image_sound symbol c = laid_sound c.shape.rows c.shape.nodes 250 (λ k. holds symbol (four (whole c) (4 * k))) (λ k. wear (four (whole c) (4 * k))) c.shape.somerows c.shape.fewrows c.shape.somenodes c.shape.fewnodes (omega arith) (omega arith) (λ k. omega arith)
