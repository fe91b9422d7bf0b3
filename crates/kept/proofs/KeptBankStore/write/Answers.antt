use Rattle.store.specs.Meaning.{written}
use Rattle.kept.specs.Stores.{banked}
use Rattle.kept.proofs.Vectors.{seen}
use Rattle.kept.proofs.KeptBankStore.write.Goals as goal

pub returns-clause-leaves : goal.returns-clause-leaves
returns-clause-leaves g c =
    let e = c.as_mut_slice.ensures in
    seen c.args.self.now.cells c.as_mut_slice.result.now c.write.new.units e.value c.write.auto.units e.len banked (λ m. written m c.args.row c.args.node c.args.x) c.write.ensures.leaves
