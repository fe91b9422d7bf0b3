-- Words read as symbols. Assumes nothing.
use Rattle.std.specs.Prelude.{◌≡◌, ℕ, ◌<◌, List, [], map, length, Ok, Err, vec_items, Result, Vec, ◌≢◌, slice_index_or}
use Rattle.std.specs.declared.alloc.Global.{Global}
use Rattle.text.specs.Words.{Placed, texts}
use Rattle.symbols.specs.declared.reading.SymbolFault.{SymbolFault}
use Rattle.symbols.specs.declared.reading.SymbolFault.TheVariants.{NotSymbol, Memory}

-- one of the words writes no symbol
abbrev pub NoSymbol : {S : Type 0} → (S → List ℕ) → List Placed → Type 0
NoSymbol {S} written ws = (k : ℕ) × (k < length ws) × ((s : S) → slice_index_or (texts ws) k [] ≢ written s)

-- the words write these symbols, or one of them writes none, unless memory was short
abbrev pub Writes : {S : Type 0} → (S → List ℕ) → List Placed → Result (Vec S Global) SymbolFault → Type 0
Writes written ws (Ok v) = texts ws ≡ map written (vec_items v)
Writes written ws (Err NotSymbol) = NoSymbol written ws
Writes written ws (Err Memory) = Unit {0}
