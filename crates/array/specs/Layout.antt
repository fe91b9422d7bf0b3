-- Where things stand in an array: k data nodes, a - τ plain parity nodes, τ piggybacked ones, b Class B nodes, in this order.
use Rattle.std.specs.Prelude.{ℕ, ◌+◌, ◌-◌, ◌%◌, cond, nat_lt}
use Rattle.array.specs.declared.parameters.Parameters.{Parameters}

-- n, the number of nodes
abbrev pub nodes : Parameters → ℕ
nodes s = s.k + s.a + s.b

-- S, the last step
abbrev pub steps : Parameters → ℕ
steps s = s.tau + s.b

-- ρ, how many data symbols of a row the last step leaves
abbrev pub reach : Parameters → ℕ
reach s = s.k - steps s

-- the number x modulo k: rows and data nodes wrap around
abbrev pub wrap : Parameters → ℕ → ℕ
wrap s x = x % s.k

-- the offset of the data symbol in row i at node j: i - j modulo k
abbrev pub offset : Parameters → ℕ → ℕ → ℕ
offset s i j = wrap s (i + (s.k - j))

-- the first node that adds symbols of further rows; it is that of step 1
abbrev pub first_step : Parameters → ℕ
first_step s = s.k + (s.a - s.tau)

-- the node of step t, for t from 1 to S: piggybacked up to τ, of Class B past it
abbrev pub step_node : Parameters → ℕ → ℕ
step_node s t = first_step s + (t - 1)

-- the step of such a node
abbrev pub step_of : Parameters → ℕ → ℕ
step_of s m = m - first_step s + 1

-- 0, 1, 2, .. with x left out: what is listed at c
abbrev pub skip : ℕ → ℕ → ℕ
skip x c = cond (nat_lt c x) c (c + 1)
