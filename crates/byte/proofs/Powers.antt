-- The rule of a table of the powers of x: it begins with 1, and each entry is x times the one before. Assumes nothing.
use Rattle.std.proofs.Common.{◌≡◌, ℕ, zero, suc, ◌+◌, ◌<◌, Bool, true, ◌&&◌, eqb, List, [], ◌∷◌, length, get_or, sym, refl, ap, ◌∙◌, add-zero, add-suc, suc-add, zero-add, arith}
use Rattle.std.proofs.lemmas.Bool.{eqb-true, and_parts}
use Rattle.byte.specs.declared.tables.TheConstants.{POWERS}
use Rattle.byte.specs.Polynomial.{times_x, power}

-- the list begins with x, and each number in it is times-x of the one before
abbrev runs : List ℕ → ℕ → Bool
runs [] x = true
runs (y ∷ ys) x = eqb y x && runs ys (times_x x)

run_at : (xs : List ℕ) (i : ℕ) → runs xs (power i) ≡ true → (k : ℕ) → k < length xs → get_or xs k 0 ≡ power (i + k)
unfolding power
run_at [] i t k h = absurd (omega arith)
run_at (y ∷ ys) i t zero h = eqb-true y (power i) (and_parts (eqb y (power i)) _ t).0 ∙ ap power (sym (add-zero i))
run_at (y ∷ ys) i t (suc k) h =
    run_at ys (suc i) (and_parts (eqb y (power i)) _ t).1 k (omega arith) ∙ ap power (suc-add i k ∙ sym (add-suc i k))

-- the rule is tried once on the whole table
powers_run : runs POWERS 1 ≡ true
unfolding times_x
powers_run = refl

powers_length : length POWERS ≡ 512
powers_length = refl

pub powers_at : (n : ℕ) → n < 512 → get_or POWERS n 0 ≡ power n
unfolding power
powers_at n h = run_at POWERS 0 powers_run n (omega (arith, powers_length)) ∙ ap power (zero-add n)
