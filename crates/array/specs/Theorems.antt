-- What is proved of the code array. Assumes nothing.
use Rattle.std.specs.Prelude.{◌≡◌, ℕ, ◌+◌, ◌-◌, ◌*◌, ◌<◌, ◌≤◌, true, cond, List, length, ◌≢◌, nat_lt}
use Rattle.field.specs.Laws.{Operations}
use Rattle.row.specs.Polynomial.{value}
use Rattle.row.specs.Interpolation.{Meets}
use Rattle.array.specs.declared.parameters.Parameters.{Parameters}
use Rattle.array.specs.Layout.{nodes, steps, reach, offset, step_node}
use Rattle.array.specs.Symbols.{row_symbol, array}
use Rattle.sheet.specs.Places.{at, listed, distinct, Agree}
use Rattle.array.specs.Sheet.{sheet, least_offset, node_sheet, slot}
use Rattle.array.specs.Recovered.{recovered, restored}

-- THE ROW RULE: there is a polynomial of k coefficients that has row i's data symbols as its values at the symbols numbered
-- 0, .., k - 1, and the value of each such polynomial at the symbol numbered m is q(i, m)
pub record RowRule {F : Type 0} (o : Operations F) (symbol : ℕ → F) (s : Parameters) (d : ℕ → ℕ → F) (i : ℕ) : Type 0 where
  pub exists : (p : List F) × (length p ≡ s.k) × Meets o symbol s.k (d i) p
  pub every : (p : List F) → length p ≡ s.k → Meets o symbol s.k (d i) p → (m : ℕ) → value o p (symbol m) ≡ row_symbol o symbol s d i m

abbrev pub Rows : {F : Type 0} → Operations F → (ℕ → F) → ℕ → Type 0
Rows {F} o symbol size = (s : Parameters) → s.k + s.a ≤ size → (d : ℕ → ℕ → F) (i : ℕ) → RowRule o symbol s d i

-- RECOVERY: the symbols at the places of its read sheet give back every symbol of data node j
abbrev pub Recovers : {F : Type 0} → Operations F → (ℕ → F) → ℕ → Type 0
Recovers {F} o symbol size =
    (s : Parameters) → s.k < size → (d v : ℕ → ℕ → F) (j : ℕ) → j < s.k
    → Agree v (array o symbol s d) (sheet s j) → (i : ℕ) → i < s.k → recovered o symbol s v j i ≡ d i j

-- the same of every node
abbrev pub Restores : {F : Type 0} → Operations F → (ℕ → F) → ℕ → Type 0
Restores {F} o symbol size =
    (s : Parameters) → s.k + s.a ≤ size → (d v : ℕ → ℕ → F) (m : ℕ) → m < nodes s
    → Agree v (array o symbol s d) (node_sheet s m) → (i : ℕ) → i < s.k → restored o symbol s v m i ≡ array o symbol s d i m

-- SIZE: how many places the read sheet of a data node has
abbrev pub sheet_size : Parameters → ℕ
sheet_size s = s.k + s.tau + s.b + reach s * (reach s - 1) - cond (nat_lt (steps s + steps s) s.k) 1 0

abbrev pub Sized : Type 0
Sized = (s : Parameters) → 1 ≤ s.b → (j : ℕ) → j < s.k → length (node_sheet s j) ≡ sheet_size s

-- the same where no node is of Class B
abbrev pub SizedRows : Type 0
SizedRows = (s : Parameters) → s.b ≡ 0 → (j : ℕ) → j < s.k → length (node_sheet s j) ≡ s.k + s.tau + (s.k - s.tau - 1) * s.k

-- of a Class A node, and of the Class B node of step t
abbrev pub SizedClassA : Type 0
SizedClassA = (s : Parameters) (m : ℕ) → s.k ≤ m → m < s.k + s.a → length (node_sheet s m) ≡ s.k * s.k

abbrev pub SizedClassB : Type 0
SizedClassB = (s : Parameters) (t : ℕ) → s.tau < t → t ≤ steps s → length (node_sheet s (step_node s t)) ≡ s.k * (s.k - t)

-- the sheet of a parity node has the data places of its least offset and more
abbrev pub ParityPlaces : Type 0
ParityPlaces =
    (s : Parameters) (m i c : ℕ) → s.k ≤ m → m < nodes s
    → (listed (node_sheet s m) (at i c) ≡ true → (i < s.k) × (c < s.k) × (least_offset s m ≤ offset s i c))
    × (i < s.k → c < s.k → least_offset s m ≤ offset s i c → listed (node_sheet s m) (at i c) ≡ true)

-- no sheet repeats a place, has more than k k places, leaves the array, or names the mended node
pub record Standing (s : Parameters) (m : ℕ) : Type 0 where
  pub once : distinct (node_sheet s m) ≡ node_sheet s m
  pub few : length (node_sheet s m) ≤ s.k * s.k
  pub inside : (i c : ℕ) → listed (node_sheet s m) (at i c) ≡ true → (i < s.k) × (c < nodes s)
  pub apart : (i : ℕ) → listed (node_sheet s m) (at i m) ≢ true
  pub some : (i : ℕ) × (c : ℕ) × (listed (node_sheet s m) (at i c) ≡ true)

abbrev pub AllStand : Type 0
AllStand = (s : Parameters) (m : ℕ) → m < nodes s → Standing s m

-- SLOTS: each place of a sheet has a record of its own among k k
abbrev pub Slots : Type 0
Slots =
    (s : Parameters) (m : ℕ) → m < nodes s
    → ((i c : ℕ) → listed (node_sheet s m) (at i c) ≡ true → slot s m i c < s.k * s.k)
    × ((i c p q : ℕ) → listed (node_sheet s m) (at i c) ≡ true → listed (node_sheet s m) (at p q) ≡ true → slot s m i c ≡ slot s m p q → (i ≡ p) × (c ≡ q))
