-- The turns of the loops that make the sums. Assumes nothing.
use Rattle.std.proofs.Common.{◌≡◌, ℕ, suc, ◌+◌, ◌-◌, ◌≤◌, eqb, ap, ◌∙◌, arith}
use Rattle.std.proofs.lemmas.Bool.{cond-true, cond-false, eq-eqb, ne_eqb}
use Rattle.field.specs.Laws.{Operations, FieldLaws}
use Rattle.array.specs.Symbols.{sum_to, sum_but}

pub sum_to_more : {F : Type 0} (o : Operations F) (m : ℕ) (f : ℕ → F) → 1 ≤ m → sum_to o (m + 1 - 1) f ≡ o.sum (sum_to o (m - 1) f) (f m)
unfolding sum_to
sum_to_more o m f h =
    let e : m + 1 - 1 ≡ suc (m - 1) = omega arith in
    let n : m - 1 + 1 ≡ m = omega arith in
    ap (λ t. sum_to o t f) e ∙ ap (λ t. o.sum (sum_to o (m - 1) f) (f t)) n

pub sum_but_more : {F : Type 0} (o : Operations F) (x m : ℕ) (f : ℕ → F) → 1 ≤ m → (m ≡ x → ⊥) → sum_but o x (m + 1 - 1) f ≡ o.sum (sum_but o x (m - 1) f) (f m)
unfolding sum_but
sum_but_more o x m f h n = sum_to_more o m _ h ∙ ap (λ t. o.sum (sum_but o x (m - 1) f) t) (cond-false (eqb m x) o.zero (f m) (ne_eqb m x n))

pub sum_but_skip : {F : Type 0} {o : Operations F} → FieldLaws o → (x m : ℕ) (f : ℕ → F) → 1 ≤ m → m ≡ x → sum_but o x (m + 1 - 1) f ≡ sum_but o x (m - 1) f
unfolding sum_but
sum_but_skip {F} {o} laws x m f h e =
    sum_to_more o m _ h ∙ ap (λ t. o.sum (sum_but o x (m - 1) f) t) (cond-true (eqb m x) o.zero (f m) (eq-eqb m x e)) ∙ laws.sum_zero _
