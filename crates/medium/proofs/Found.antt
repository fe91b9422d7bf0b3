-- A place or a node's run that was found on a store lies in the store's memory.
use Rattle.std.proofs.Common.{◌≡◌, ℕ, ◌+◌, ◌-◌, ◌*◌, ◌≤◌, List, Ok, arith}
use Rattle.std.proofs.lemmas.Nat.{mul-le}
use Rattle.store.specs.Beyond.{Beyond}
use Rattle.store.specs.Laid.{found}
use Rattle.store.proofs.Lay.{spot_below, found_on}
use Rattle.store.proofs.Rest.{beyond_wider}

-- the first m of n places lie in the memory that all lie in
some_lie : (each m n len : ℕ) → m ≤ n → each * n ≤ len → each * m ≤ len
some_lie each m n len l h = omega (arith, mul-le each m each n (omega arith) l)

module _ (rows nodes row node at : ℕ) (e : Ok at ≡ found rows nodes row node) where
  place_below : at + 1 ≤ rows * nodes
  place_below = let o = found_on rows nodes row node at e in omega (arith, spot_below rows nodes row node o.0 o.1, o.2)

  pub place_lies : (each len : ℕ) → each * (rows * nodes) ≤ len → each * (at + 1) ≤ len
  place_lies each len h = some_lie each (at + 1) (rows * nodes) len place_below h

  pub place_beyond : {X : Type 0} (each : ℕ) (before after : List X) → Beyond (each * (at + 1)) before after → Beyond (each * (rows * nodes)) before after
  place_beyond each before after h = beyond_wider (each * (at + 1)) (each * (rows * nodes)) before after (mul-le each (at + 1) each (rows * nodes) (omega arith) place_below) h

module _ (rows nodes node start : ℕ) (e : Ok start ≡ found rows nodes 0 node) where
  run_below : start + rows ≤ rows * nodes
  run_below = let o = found_on rows nodes 0 node start e in omega (arith, spot_below rows nodes (rows - 1) node (omega arith) o.1, o.2)

  pub run_lies : (each len : ℕ) → each * (rows * nodes) ≤ len → each * (start + rows) ≤ len
  run_lies each len h = some_lie each (start + rows) (rows * nodes) len run_below h

  pub run_beyond : {X : Type 0} (each : ℕ) (before after : List X) → Beyond (each * (start + rows)) before after → Beyond (each * (rows * nodes)) before after
  run_beyond each before after h = beyond_wider (each * (start + rows)) (each * (rows * nodes)) before after (mul-le each (start + rows) each (rows * nodes) (omega arith) run_below) h
