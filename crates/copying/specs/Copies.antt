-- What copying a node answers, and what it leaves in both stores. Assumes nothing.
use Rattle.std.specs.Prelude.{ℕ, zero, suc, ◌+◌, cond, ◌&&◌, Some, None, Ok, Err, Option, Result, ◌==◌, nat_lt}
use Rattle.store.specs.declared.fault.StoreFault.{StoreFault}
use Rattle.store.specs.Meaning.{Meaning, probed, metered}
use Rattle.copying.specs.declared.fault.CopyFault.{CopyFault}
use Rattle.copying.specs.declared.fault.CopyFault.TheVariants.{Source, Target}

-- a place that is written to needs only be on its store
abbrev pub target_fault : Result ℕ StoreFault → Option CopyFault
target_fault (Ok _) = None
target_fault (Err f) = Some (Target f)

-- a place that is read must answer
abbrev pub place_fault : {F : Type 0} → Result F StoreFault → Result ℕ StoreFault → Option CopyFault
place_fault (Err f) _ = Some (Source f)
place_fault (Ok _) r = target_fault r

-- why a row is not copied from the node `source` of m to the node `target` of t
abbrev pub row_fault : {F : Type 0} → Meaning F → ℕ → Meaning F → ℕ → ℕ → Option CopyFault
row_fault m source t target row = place_fault (probed m row source) (metered t row target)

-- the first of two
abbrev pub first : Option CopyFault → Option CopyFault → Option CopyFault
first (Some f) _ = Some f
first None o = o

-- why the rows below a number are not copied
abbrev pub copy_fault : {F : Type 0} → Meaning F → ℕ → Meaning F → ℕ → ℕ → Option CopyFault
copy_fault m source t target zero = None
copy_fault m source t target (suc row) = first (copy_fault m source t target row) (row_fault m source t target row)

abbrev pub answered : Option CopyFault → Result (Unit {0}) CopyFault
answered None = Ok tt
answered (Some f) = Err f

-- how many of the rows a copy with this answer moves: all or none
abbrev pub moved : Result (Unit {0}) CopyFault → ℕ → ℕ
moved (Ok _) rows = rows
moved (Err _) rows = 0

-- the first rows of a node are read once
abbrev pub drained : {F : Type 0} → Meaning F → ℕ → ℕ → Meaning F
drained m node rows = record { rows = m.rows; nodes = m.nodes; life = m.life; symbol = m.symbol; meter = λ i j. cond (nat_lt i rows && j == node) (m.meter i j + 1) (m.meter i j) }

-- the first rows of a node hold what those of the node `source` of m hold
abbrev pub filled : {F : Type 0} → Meaning F → ℕ → ℕ → Meaning F → ℕ → Meaning F
filled t node rows m source = record { rows = t.rows; nodes = t.nodes; life = t.life; symbol = λ i j. cond (nat_lt i rows && j == node) (m.symbol i source) (t.symbol i j); meter = t.meter }
