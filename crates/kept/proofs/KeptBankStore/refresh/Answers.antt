use Rattle.std.proofs.Common.{ap}
use Rattle.store.specs.Meaning.{refreshed}
use Rattle.kept.specs.Stores.{banked}
use Rattle.kept.proofs.Vectors.{seen}
use Rattle.kept.proofs.KeptBankStore.refresh.Goals as goal

pub returns-clause-leaves : goal.returns-clause-leaves
returns-clause-leaves g c =
    let e = c.as_mut_slice.ensures in
    seen c.args.self.now.cells c.as_mut_slice.result.now c.refresh.new.units e.value c.refresh.auto.units e.len banked (λ m. refreshed m c.args.node) c.refresh.ensures.leaves

pub returns-clause-declined : goal.returns-clause-declined
returns-clause-declined g c =
    let e = c.as_mut_slice.ensures in
    λ o. seen c.args.self.now.cells c.as_mut_slice.result.now c.refresh.new.units e.value c.refresh.auto.units e.len banked (λ m. m) (ap banked (c.refresh.ensures.declined o))
