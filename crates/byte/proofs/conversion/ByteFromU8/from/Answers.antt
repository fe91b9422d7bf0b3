use Rattle.std.proofs.Common.{refl}
use Rattle.byte.specs.Laws.{is_byte}
use Rattle.byte.proofs.conversion.ByteFromU8.from.Goals as goal

pub returns : goal.returns
returns c = is_byte _ _ refl
