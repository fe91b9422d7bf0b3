use Rattle.store.specs.Meaning.{written}
use Rattle.kept.specs.Stores.{carded}
use Rattle.kept.proofs.Vectors.{seen}
use Rattle.kept.proofs.KeptImageStore.write.Goals as goal

pub returns-clause-leaves : goal.returns-clause-leaves
returns-clause-leaves g c =
    let e = c.as_mut_slice.ensures in
    seen c.args.self.now.bytes c.as_mut_slice.result.now c.write.new.units e.value c.write.auto.units e.len (carded g.F.NumberedField.symbol) (λ m. written m c.args.row c.args.node c.args.x) c.write.ensures.leaves
