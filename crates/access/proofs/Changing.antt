-- How the data, the row rule and the sums past the diagonal change where one data symbol is replaced. Assumes nothing.
use Rattle.std.proofs.Common.{◌≡◌, ℕ, ◌+◌, ◌-◌, ◌<◌, ◌≤◌, cond, ◌&&◌, eqb, sym, refl, ap, ◌∙◌, subst, ap₂, ⊎_elim}
use Rattle.std.proofs.lemmas.Bool.{cases_eq, cond-true, cond-false, and_from, and_left, and_right, eq-eqb, ne_eqb}
use Rattle.field.specs.Laws.{Operations, FieldLaws}
use Rattle.row.specs.Interpolation.{basis}
use Rattle.row.proofs.Algebra.{sum_comm, sum_assoc, sub_add, product_comm}
use Rattle.row.proofs.Lagrange.{sum_as, change}
use Rattle.code.specs.Codes.{replaced}
use Rattle.array.specs.declared.parameters.Parameters.{Parameters}
use Rattle.array.specs.Layout.{wrap}
use Rattle.array.specs.Symbols.{sum_but, row_symbol, past}
use Rattle.array.proofs.Recovery.{sum_to_as, sum_but_as, sum_to_but}

module _ {F : Type 0} {o : Operations F} (laws : FieldLaws o) (symbol : ℕ → F) (p : Parameters) (d : ℕ → ℕ → F) (i j : ℕ) (v : F) where
  open o use {sum as ◌⊕◌, product as ◌⊗◌, difference as ◌⊖◌}

  infixl 60 ◌⊕◌
  infixl 60 ◌⊖◌
  infixl 70 ◌⊗◌
  -- the data
  pub off : (r c : ℕ) → (r ≡ i → c ≡ j → ⊥) → replaced d i j v r c ≡ d r c
  unfolding replaced
  off r c n =
      cond-false (eqb r i && eqb c j) _ _
      (⊎_elim (λ e. and_right (eqb r i) (eqb c j) (ne_eqb c j (n e))) (λ e. and_left (eqb r i) (eqb c j) (ne_eqb r i e)) (cases_eq r i))

  pub on : replaced d i j v i j ≡ v
  unfolding replaced
  on = cond-true (eqb i i && eqb j j) _ _ (and_from (eqb i i) (eqb j j) (eq-eqb i i refl) (eq-eqb j j refl))

  pub plus : d i j ⊕ (v ⊖ d i j) ≡ v
  plus = sum_comm laws _ _ ∙ sub_add laws v (d i j)

  -- the row rule
  pub row_off : (r m : ℕ) → (r ≡ i → ⊥) → row_symbol o symbol p (replaced d i j v) r m ≡ row_symbol o symbol p d r m
  unfolding row_symbol
  row_off r m n = sum_as laws p.k _ _ (λ l h. ap (λ t. t ⊗ basis o symbol p.k l (symbol m)) (off r l (λ e _. n e)))

  pub row_on : j < p.k → (m : ℕ)
      → row_symbol o symbol p (replaced d i j v) i m ≡ row_symbol o symbol p d i m ⊕ basis o symbol p.k j (symbol m) ⊗ (v ⊖ d i j)
  unfolding row_symbol
  row_on hj m =
      let e = v ⊖ d i j in
      sum_as laws p.k _ (λ l. cond (eqb l j) (d i l ⊕ e) (d i l) ⊗ basis o symbol p.k l (symbol m)) (λ l h. ap (λ t. t ⊗ basis o symbol p.k l (symbol m)) (new l))
      ∙ change laws symbol p.k (d i) j e (symbol m) hj
      ∙ ap (λ t. row_symbol o symbol p d i m ⊕ t) (product_comm laws e (basis o symbol p.k j (symbol m)))
    where
      new : (l : ℕ) → replaced d i j v i l ≡ cond (eqb l j) (d i l ⊕ (v ⊖ d i j)) (d i l)
      new l =
          ⊎_elim
          (λ s. subst (λ t. replaced d i j v i t ≡ cond (eqb t j) (d i t ⊕ (v ⊖ d i j)) (d i t)) (sym s) (on ∙ sym plus ∙ sym (cond-true (eqb j j) _ _ (eq-eqb j j refl))))
          (λ n. off i l (λ _ z. n z) ∙ sym (cond-false (eqb l j) _ _ (ne_eqb l j n))) (cases_eq l j)

  -- the sums past the diagonal
  pub past_off : (r t : ℕ) → ((m : ℕ) → 1 ≤ m → m ≤ p.k - t - 1 → r ≡ i → wrap p (r + m) ≡ j → ⊥) → past o p (replaced d i j v) r t ≡ past o p d r t
  unfolding past
  past_off r t n = sum_to_as laws (p.k - t - 1) _ _ (λ m a b. off r (wrap p (r + m)) (n m a b))

  pub past_on : (t y : ℕ) → 1 ≤ y → y ≤ p.k - t - 1 → wrap p (i + y) ≡ j → ((m : ℕ) → 1 ≤ m → m ≤ p.k - t - 1 → wrap p (i + m) ≡ j → m ≡ y)
      → past o p (replaced d i j v) i t ≡ past o p d i t ⊕ (v ⊖ d i j)
  unfolding past
  past_on t y a b e only =
      let n = p.k - t - 1 in
      let f = λ (m : ℕ). d i (wrap p (i + m)) in
      let f' = λ (m : ℕ). replaced d i j v i (wrap p (i + m)) in
      sum_to_but laws y n f' a b
      ∙ ap₂ ◌⊕◌ (sum_but_as laws y n f' f (λ m g h w. off i (wrap p (i + m)) (λ _ z. w (only m g h z)))) (ap (λ c. replaced d i j v i c) e ∙ on ∙ sym plus)
      ∙ sym (sum_assoc laws _ _ _) ∙ ap (λ s. s ⊕ (v ⊖ d i j)) (sym (sum_to_but laws y n f a b ∙ ap (λ c. sum_but o y n f ⊕ d i c) e))
