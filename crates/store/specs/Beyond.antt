-- What a store leaves of the memory that lies beyond it. Assumes nothing.
use Rattle.std.specs.Prelude.{◌≡◌, ℕ, List, length, drop}

-- the memory was `before` and is `after`: the first `used` of it may have changed, and the rest is as it was
pub record Beyond {X : Type 0} (used : ℕ) (before after : List X) : Type 0 where
  pub long : length after ≡ length before
  pub rest : drop used after ≡ drop used before
