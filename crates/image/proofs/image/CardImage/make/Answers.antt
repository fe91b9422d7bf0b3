use Rattle.std.proofs.Common.{◌/◌, slice_index, ap, ◌∙◌, arith}
use Rattle.image.proofs.image.CardImage.make.Goals as goal

pub returns-clause-blank : goal.returns-clause-blank
returns-clause-blank g c = c.open.ensures.opened ∙ c.make.ensures.leaves

pub returns-clause-zeros : goal.returns-clause-zeros
returns-clause-zeros g c = λ k a b. ap (λ bytes. slice_index bytes k) c.open.ensures.untouched ∙ c.make.ensures.bare (k / 4) (omega arith) k (omega arith) (omega arith)
