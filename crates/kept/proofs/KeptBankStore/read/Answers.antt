use Rattle.store.specs.Meaning.{read}
use Rattle.kept.specs.Stores.{banked}
use Rattle.kept.proofs.Vectors.{seen}
use Rattle.kept.proofs.KeptBankStore.read.Goals as goal

pub returns-clause-leaves : goal.returns-clause-leaves
returns-clause-leaves g c =
    let e = c.as_mut_slice.ensures in
    seen c.args.self.now.cells c.as_mut_slice.result.now c.read.new.units e.value c.read.auto.units e.len banked (λ m. read m c.args.row c.args.node) c.read.ensures.leaves
