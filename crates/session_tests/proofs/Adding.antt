-- A reply's line is added. Assumes nothing.
use Rattle.std.proofs.Common.{◌≡◌, ℕ, List, ◌++◌, IfOk, Ok, Err, Result}
use Rattle.session.specs.Runs.{Adds}

pub adds : {X Y : Type 0} (r : Result X Y) (before after bytes : List ℕ) → IfOk r (λ _. after ≡ before ++ bytes) → IfOk r (λ _. Adds before after (λ _. Unit {0}))
adds (Ok x) before after bytes e = (bytes, tt, e)
adds (Err y) before after bytes e = tt
