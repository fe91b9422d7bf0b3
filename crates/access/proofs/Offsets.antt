-- The offset of a data place, and the three ways to solve it. Assumes nothing.
use Rattle.std.proofs.Common.{◌≡◌, ℕ, ◌+◌, ◌-◌, ◌<◌, ◌≤◌, eqb, leb, ◌⊎◌, subst, inl, inr, ⊎_elim, arith}
use Rattle.std.proofs.lemmas.Bool.{cond_both, eqb-true, eqb-false, leb-true, leb-false}
use Rattle.array.specs.declared.parameters.Parameters.{Parameters}
use Rattle.array.specs.Layout.{steps, wrap, offset}
use Rattle.array.proofs.Wraps.{Wrapped, wrapped, wrapped_is}
use Rattle.access.specs.declared.fetch.Way.{Way}
use Rattle.access.specs.declared.fetch.Way.TheVariants.{OwnRow, OwnStep, LastStep}
use Rattle.access.specs.Fetch.{way_of}

-- what holds of each way holds of the way of an offset
pub by_way : (p : Parameters) (x : ℕ) (P : Way → Type 0)
    → ((x ≤ p.tau) ⊎ (p.b ≡ 0) → P OwnRow) → (p.tau < x → x ≤ steps p → P OwnStep) → (steps p < x → 1 ≤ p.b → P LastStep)
    → P (way_of p x)
by_way p x P row step last =
    cond_both (leb x p.tau) _ _ P (λ a. row (inl (leb-true x p.tau a)))
    (λ a.
    cond_both (leb x (steps p)) _ _ P (λ b. step (leb-false x p.tau a) (leb-true x (steps p) b))
    (λ b.
    cond_both (eqb p.b 0) _ _ P (λ c. row (inr (eqb-true p.b 0 c)))
    (λ c. last (leb-false x (steps p) b) (let n = eqb-false p.b 0 c in omega arith))))

module _ (p : Parameters) (i j : ℕ) (hi : i < p.k) (hj : j < p.k) (x : ℕ) (is : offset p i j ≡ x) where
  -- the row is x past the node
  pub offset_is : Wrapped p.k (i + (p.k - j)) x
  offset_is = subst (λ y. Wrapped p.k (i + (p.k - j)) y) is (wrapped p (i + (p.k - j)) (omega arith))

  pub x_below : x < p.k
  x_below = offset_is.below

  pub off_diagonal : 1 ≤ x → i ≡ j → ⊥
  off_diagonal h e = ⊎_elim (λ a. omega (arith, x_below)) (λ a. omega (arith, x_below)) offset_is.either

  -- going y up from node j leads to row i only at its offset
  pub up_row : (y : ℕ) → y < p.k → wrap p (j + y) ≡ i → y ≡ x
  up_row y h e =
      let w = wrapped p (j + y) (omega arith) in
      let b = x_below in
      ⊎_elim (λ f. ⊎_elim (λ g. omega arith) (λ g. omega arith) w.either) (λ f. ⊎_elim (λ g. omega arith) (λ g. omega arith) w.either) offset_is.either

  pub row_up : wrap p (j + x) ≡ i
  row_up =
      let b = x_below in
      ⊎_elim (λ f. wrapped_is p (j + x) i (omega arith) hi (inr (omega arith))) (λ f. wrapped_is p (j + x) i (omega arith) hi (inl (omega arith))) offset_is.either

  -- going y past row i leads to node j only at k - x
  pub past_node : (y : ℕ) → 1 ≤ y → y < p.k → wrap p (i + y) ≡ j → y ≡ p.k - x
  past_node y h l e =
      let w = wrapped p (i + y) (omega arith) in
      let b = x_below in
      ⊎_elim (λ f. ⊎_elim (λ g. omega arith) (λ g. omega arith) w.either) (λ f. ⊎_elim (λ g. omega arith) (λ g. omega arith) w.either) offset_is.either

  pub node_past : wrap p (i + (p.k - x)) ≡ j
  node_past =
      let b = x_below in
      ⊎_elim (λ f. wrapped_is p (i + (p.k - x)) j (omega arith) hj (inl (omega arith))) (λ f. wrapped_is p (i + (p.k - x)) j (omega arith) hj (inr (omega arith))) offset_is.either
