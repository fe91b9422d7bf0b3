-- What the cells of a memory bank mean. Assumes nothing.
use Rattle.std.specs.Prelude.{ℕ, min, List, None, slice_index_or}
use Rattle.bank.specs.declared.cell.Cell.{Cell}
use Rattle.store.specs.Meaning.{Meaning}
use Rattle.store.specs.Laid.{laid}

-- a place that is new
abbrev pub bare : {F : Type 0} → Cell F
bare = record { symbol = None; meter = 0 }

-- the cell at k, a new one past the end
abbrev pub cell : {F : Type 0} → List (Cell F) → ℕ → Cell F
cell cells k = slice_index_or cells k bare

-- the cell with its meter at 0
abbrev pub rewound : {F : Type 0} → Cell F → Cell F
rewound c = record { symbol = c.symbol; meter = 0 }

-- the store of the first rows * nodes cells, whose life is 1000; a larger meter counts as 1000
abbrev pub kept : {F : Type 0} → ℕ → ℕ → List (Cell F) → Meaning F
kept rows nodes cells = laid rows nodes 1000 (λ k. (cell cells k).symbol) (λ k. min (cell cells k).meter 1000)
