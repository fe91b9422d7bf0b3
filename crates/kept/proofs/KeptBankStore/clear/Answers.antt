use Rattle.std.proofs.Common.{ap}
use Rattle.store.specs.Meaning.{cleared}
use Rattle.kept.specs.Stores.{banked}
use Rattle.kept.proofs.Vectors.{seen}
use Rattle.kept.proofs.KeptBankStore.clear.Goals as goal

pub returns-clause-leaves : goal.returns-clause-leaves
returns-clause-leaves g c =
    let e = c.as_mut_slice.ensures in
    seen c.args.self.now.cells c.as_mut_slice.result.now c.clear.new.units e.value c.clear.auto.units e.len banked (λ m. cleared m c.args.node) c.clear.ensures.leaves

pub returns-clause-declined : goal.returns-clause-declined
returns-clause-declined g c =
    let e = c.as_mut_slice.ensures in
    λ o. seen c.args.self.now.cells c.as_mut_slice.result.now c.clear.new.units e.value c.clear.auto.units e.len banked (λ m. m) (ap banked (c.clear.ensures.declined o))
