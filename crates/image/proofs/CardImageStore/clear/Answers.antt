use Rattle.std.proofs.Common.{◌/◌, arith, rules}
use Rattle.image.proofs.CardImageStore.clear.Goals as goal

pub returns-clause-zeros : goal.returns-clause-zeros
returns-clause-zeros g c = λ o k a b. c.clear.ensures.bare (search rules) (k / 4) (omega arith) (omega arith) k (omega arith) (omega arith)
