use Rattle.std.proofs.Common.{ap}
use Rattle.store.specs.Meaning.{cleared}
use Rattle.kept.specs.Stores.{carded}
use Rattle.kept.proofs.Vectors.{seen}
use Rattle.kept.proofs.KeptImageStore.clear.Goals as goal

pub returns-clause-leaves : goal.returns-clause-leaves
returns-clause-leaves g c =
    let e = c.as_mut_slice.ensures in
    seen c.args.self.now.bytes c.as_mut_slice.result.now c.clear.new.units e.value c.clear.auto.units e.len (carded g.F.NumberedField.symbol) (λ m. cleared m c.args.node) c.clear.ensures.leaves

pub returns-clause-declined : goal.returns-clause-declined
returns-clause-declined g c =
    let e = c.as_mut_slice.ensures in
    λ o. seen c.args.self.now.bytes c.as_mut_slice.result.now c.clear.new.units e.value c.clear.auto.units e.len (carded g.F.NumberedField.symbol) (λ m. m) (ap (carded g.F.NumberedField.symbol) (c.clear.ensures.declined o))
