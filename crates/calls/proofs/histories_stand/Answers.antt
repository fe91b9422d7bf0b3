use Rattle.calls.proofs.Histories.{claims, served}
use Rattle.calls.proofs.histories_stand.Goals as goal

pub returns : goal.returns
returns g c =
    let o = g.F.Field.ops in
    let size = g.F.NumberedField.size in
    record { every = λ code laws m₀ m h l. claims o size code laws m₀ m h l; extends = λ code laws e m m' s. served o size code laws e m m' s }
