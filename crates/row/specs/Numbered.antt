-- The places of a row go by number: place n stands at the field's symbol numbered n. Assumes nothing.
use Rattle.std.specs.Prelude.{ℕ, Some, None, Option}

abbrev pub or_else : {F : Type 0} → F → Option F → F
or_else z None = z
or_else z (Some u) = u

-- the symbol numbered n (zero where there is none)
abbrev pub numbered : {F : Type 0} → F → (ℕ → Option F) → ℕ → F
numbered z symbol n = or_else z (symbol n)
