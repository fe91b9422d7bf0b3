-- Which parameters a code may have, and the number that says why others are declined. Assumes nothing.
use Rattle.std.specs.Prelude.{ℕ, ◌+◌, ◌-◌, cond, ◌||◌, Some, None, Option, nat_le, nat_lt}
use Rattle.array.specs.declared.fault.ParameterFault.{ParameterFault}
use Rattle.array.specs.declared.fault.ParameterFault.TheVariants.{DataNodes, ClassA, Piggybacks, ClassB, SmallField}

-- why the parameters are declined, if they are: k outside 3 to 32, a outside 2 to k - 1, τ outside 1 to a - 1,
-- b outside 0 to k - τ - 1, checked in this order
unfoldable pub declined : ℕ → ℕ → ℕ → ℕ → Option ParameterFault
declined k a tau b =
    cond (nat_lt k 3 || nat_lt 32 k) (Some DataNodes)
    (cond (nat_lt a 2 || nat_le k a) (Some ClassA)
    (cond (nat_lt tau 1 || nat_le a tau) (Some Piggybacks)
    (cond (nat_le (k - tau) b) (Some ClassB) None)))

-- the first of two reasons
abbrev pub first_fault : Option ParameterFault → Option ParameterFault → Option ParameterFault
first_fault None g = g
first_fault (Some f) g = Some f

-- the same over a field of this size, which must have a number for each data node and each Class A node
unfoldable pub declined_over : ℕ → ℕ → ℕ → ℕ → ℕ → Option ParameterFault
declined_over size k a tau b = first_fault (declined k a tau b) (cond (nat_lt size (k + a)) (Some SmallField) None)

-- the numbers of the reasons
abbrev pub fault_number : ParameterFault → ℕ
fault_number DataNodes = 11
fault_number ClassA = 12
fault_number Piggybacks = 13
fault_number ClassB = 14
fault_number SmallField = 15
