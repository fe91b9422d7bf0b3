use Rattle.std.proofs.Common.{arith}
use Rattle.std.proofs.lemmas.Bool.Decides.{nat_tests}
use Rattle.store.proofs.Lay.{laid_blank}
use Rattle.medium.proofs.make.Goals as goal

pub returns-clause-leaves : goal.returns-clause-leaves
returns-clause-leaves g c = laid_blank c.args.shape.rows c.args.shape.nodes g.M.Medium.life (g.M.Medium.symbols c.blank.new.units) (g.M.Medium.meters c.blank.new.units)
    (λ k l. let e = c.blank.ensures.symbols k in grind (arith, nat_tests))
    (λ k l. let e = c.blank.ensures.meters k in grind (arith, nat_tests))
