-- What a fetch computes is the symbol that is sought. Assumes nothing.
use Rattle.std.proofs.Common.{◌≡◌, ℕ, ◌+◌, ◌-◌, ◌<◌, ◌≤◌, List, refl, ap, ◌∙◌, ap₂, inl, inr, arith}
use Rattle.std.specs.List.{range_with_len}
use Rattle.field.specs.Laws.{Operations, FieldLaws}
use Rattle.row.specs.Interpolation.{Apart}
use Rattle.sheet.specs.declared.place.Place.{Place}
use Rattle.sheet.specs.Places.{at}
use Rattle.array.specs.declared.parameters.Parameters.{Parameters}
use Rattle.array.specs.Layout.{steps, reach, wrap, offset, step_node, skip}
use Rattle.array.specs.Symbols.{sum_but, past, array}
use Rattle.array.specs.Sheet.{row_places, local_places}
use Rattle.array.specs.Recovered.{around, by_local}
use Rattle.array.proofs.Members.{In, in_map, in_counting}
use Rattle.array.proofs.Wraps.{wrapped}
use Rattle.array.proofs.Parts.{in_row_places, in_local_node, in_local_step, in_local_past}
use Rattle.array.proofs.Recovery.{take_left, take_right, sum_to_as, sum_but_as, sum_to_but, array_data, array_local, around_row, row_data}
use Rattle.access.specs.Fetch.{way_of, step_reads, reads, solved_by}
use Rattle.access.proofs.Offsets.{by_way, x_below, row_up, node_past}

module _ {F : Type 0} {o : Operations F} (laws : FieldLaws o) {size : ℕ} {symbol : ℕ → F} (apart : Apart symbol size)
    (p : Parameters) (room : p.k < size) (i j : ℕ) (hi : i < p.k) (hj : j < p.k) (x : ℕ) (is : offset p i j ≡ x) (d f : ℕ → ℕ → F) where
  open o use {sum as ◌⊕◌, difference as ◌⊖◌}

  infixl 60 ◌⊕◌
  infixl 60 ◌⊖◌
  -- the symbols at these places are the array's
  abbrev Known : List Place → Type 0
  Known ps = (r m : ℕ) → In (at r m) ps → f r m ≡ array o symbol p d r m

  by_row : Known (row_places p j i) → around o symbol p f j i j ≡ d i j
  by_row known =
      around_row laws apart p room d f j i j (λ l h. known i (skip j l) (in_row_places p j i l h)) ∙ row_data laws apart p room d i j hj

  by_step : p.tau < x → Known (step_reads p j x) → f j (step_node p x) ⊖ past o p f j x ≡ d i j
  unfolding step_reads past
  by_step far known =
      ap₂ ◌⊖◌ (known j (step_node p x) (inl refl) ∙ array_local laws symbol p d j x far)
      (sum_to_as laws (p.k - x - 1) _ _
      (λ m a b.
      known j (wrap p (j + m)) (inr (in_map (λ m. at j (wrap p (j + m))) m (range_with_len 1 (p.k - x - 1)) (in_counting m 1 (p.k - x - 1) a (omega arith))))
      ∙ array_data laws symbol p d j (wrap p (j + m)) (wrapped p (j + m) (omega arith)).below))
      ∙ take_right laws _ _ ∙ ap (λ r. d r j) (row_up p i j hi hj x is)

  module _ (far : steps p < x) (some : 1 ≤ p.b) (known : Known (local_places p x i)) where
    rest : sum_but o (p.k - x) (reach p - 1) (λ m. f i (wrap p (i + m))) ≡ sum_but o (p.k - x) (reach p - 1) (λ m. d i (wrap p (i + m)))
    rest =
        sum_but_as laws (p.k - x) (reach p - 1) _ _
        (λ m a b n.
        known i (wrap p (i + m)) (in_local_past p x i m (x_below p i j hi hj x is) far a b n)
        ∙ array_data laws symbol p d i (wrap p (i + m)) (wrapped p (i + m) (omega arith)).below)

    whole : past o p d i (steps p) ≡ sum_but o (p.k - x) (reach p - 1) (λ m. d i (wrap p (i + m))) ⊕ d i j
    unfolding past
    whole =
        let h = x_below p i j hi hj x is in
        sum_to_but laws (p.k - x) (reach p - 1) (λ m. d i (wrap p (i + m))) (omega arith) (omega arith)
        ∙ ap (λ t. sum_but o (p.k - x) (reach p - 1) (λ m. d i (wrap p (i + m))) ⊕ d i t) (node_past p i j hi hj x is)

    by_last : by_local o p f (p.k - x) i ≡ d i j
    unfolding by_local
    by_last =
        let A = d (wrap p (i + steps p)) i in
        let B = sum_but o (p.k - x) (reach p - 1) (λ m. d i (wrap p (i + m))) in
        ap₂ ◌⊖◌
        (ap₂ ◌⊖◌
        (known i (step_node p (steps p)) (in_local_node p x i) ∙ array_local laws symbol p d i (steps p) (omega arith) ∙ ap (λ t. A ⊕ t) whole)
        (known (wrap p (i + steps p)) i (in_local_step p x i) ∙ array_data laws symbol p d (wrap p (i + steps p)) i hi)
        ∙ take_left laws A (B ⊕ d i j))
        rest
        ∙ take_left laws B (d i j)

  pub solved : Known (reads p i j x (way_of p x)) → solved_by o symbol p f i j x (way_of p x) ≡ d i j
  solved = by_way p x (λ w. Known (reads p i j x w) → solved_by o symbol p f i j x w ≡ d i j) (λ _. by_row) (λ a b. by_step a) (λ a b. by_last a b)
