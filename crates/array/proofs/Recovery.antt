-- The symbols at the places of its read sheet give back every symbol of a data node. Assumes nothing.
use Rattle.std.proofs.Common.{◌≡◌, ℕ, zero, suc, ◌+◌, ◌-◌, ◌<◌, ◌≤◌, Bool, true, false, cond, eqb, leb, sym, refl, ap, ◌∙◌, subst, ap₂, inl, ⊎_elim, arith}
use Rattle.std.proofs.lemmas.Bool.Decides.{nat_tests}
use Rattle.std.proofs.lemmas.Bool.{cases_lt, cases_eq, cond-true, cond-false, cond_both, eq-eqb, ne_eqb, eqb-true, eqb-false, leb-true, leb-false}
use Rattle.field.specs.Laws.{Operations, FieldLaws}
use Rattle.row.specs.Interpolation.{sum_below, Apart, Meets}
use Rattle.row.proofs.Algebra.{sum_comm, sum_assoc, sum_zero, difference_unique}
use Rattle.row.proofs.Lagrange.{row_rule, poly_interpolate, interpolate_at, sum_as}
use Rattle.array.specs.declared.parameters.Parameters.{Parameters}
use Rattle.array.specs.Layout.{steps, reach, wrap, offset, first_step, step_node, step_of, skip}
use Rattle.array.specs.Symbols.{sum_to, sum_but, row_symbol, past, array}
use Rattle.sheet.specs.Places.{at, Agree}
use Rattle.array.specs.Sheet.{row_places, local_places, listing, sheet}
use Rattle.array.specs.Recovered.{around, by_local, recovered_at, recovered}
use Rattle.array.specs.Theorems.{Recovers}
use Rattle.array.proofs.Members.{In, listed_in, in_distinct}
use Rattle.array.proofs.Wraps.{wrapped, wrapped_is, offset_below, offset_row, offset_node, skip_bounds, skip_injective}
use Rattle.array.proofs.Parts.{in_row_places, in_row, in_own, in_step, in_far, far_row, far_local, in_local_node, in_local_step, in_local_past}

module _ {F : Type 0} {o : Operations F} (laws : FieldLaws o) where
  open o use {zero as 𝟘, one as 𝟙, sum as ◌⊕◌, product as ◌⊗◌, difference as ◌⊖◌, inverse}

  infixl 60 ◌⊕◌
  infixl 60 ◌⊖◌
  pub take_left : (u w : F) → (u ⊕ w) ⊖ u ≡ w
  take_left u w = sym (difference_unique laws (u ⊕ w) u w (sum_comm laws w u))

  pub take_right : (u w : F) → (u ⊕ w) ⊖ w ≡ u
  take_right u w = sym (difference_unique laws (u ⊕ w) w u refl)

  -- sums from 1 on
  pub sum_to_as : (n : ℕ) (f g : ℕ → F) → ((m : ℕ) → 1 ≤ m → m ≤ n → f m ≡ g m) → sum_to o n f ≡ sum_to o n g
  unfolding sum_to
  sum_to_as n f g h = sum_as laws n _ _ (λ l b. h (l + 1) (omega arith) (omega arith))

  pub sum_but_as : (x n : ℕ) (f g : ℕ → F) → ((m : ℕ) → 1 ≤ m → m ≤ n → (m ≡ x → ⊥) → f m ≡ g m) → sum_but o x n f ≡ sum_but o x n g
  unfolding sum_but
  sum_but_as x n f g h = sum_to_as n _ _ (λ m a b. go m a b (eqb m x) refl)
    where
      go : (m : ℕ) → 1 ≤ m → m ≤ n → (t : Bool) → eqb m x ≡ t → cond t 𝟘 (f m) ≡ cond t 𝟘 (g m)
      go m a b true e = refl
      go m a b false e = h m a b (eqb-false m x e)

  -- a sum with a term put back
  pub sum_to_but : (x n : ℕ) (f : ℕ → F) → 1 ≤ x → x ≤ n → sum_to o n f ≡ sum_but o x n f ⊕ f x
  unfolding sum_to sum_but
  sum_to_but x n f h1 h2 = split n (omega arith)
    where
      but : ℕ → F
      but m = cond (eqb m x) 𝟘 (f m)

      before : (n : ℕ) → n < x → sum_below o n (λ m. f (m + 1)) ≡ sum_below o n (λ m. cond (eqb (m + 1) x) 𝟘 (f (m + 1)))
      before n h = sum_as laws n _ _ (λ l b. sym (cond-false (eqb (l + 1) x) 𝟘 _ (ne_eqb (l + 1) x (λ e. omega arith))))

      split : (n : ℕ) → x ≤ n → sum_below o n (λ m. f (m + 1)) ≡ sum_below o n (λ m. cond (eqb (m + 1) x) 𝟘 (f (m + 1))) ⊕ f x
      split zero h = absurd (omega arith)
      split (suc n) h =
          ⊎_elim
          (λ e. ap₂ ◌⊕◌ (before n (omega arith)) (ap f e)
          ∙ ap (λ t. t ⊕ f x) (sym (sum_zero laws _) ∙ ap (λ t. sum_below o n (λ m. cond (eqb (m + 1) x) 𝟘 (f (m + 1))) ⊕ t) (sym (cond-true (eqb (n + 1) x) 𝟘 (f (n + 1)) (eq-eqb (n + 1) x e)))))
          (λ d. ap (λ t. t ⊕ f (n + 1)) (split n (omega arith)) ∙ swap _ (f x) (f (n + 1))
          ∙ ap (λ t. (sum_below o n (λ m. cond (eqb (m + 1) x) 𝟘 (f (m + 1))) ⊕ t) ⊕ f x) (sym (cond-false (eqb (n + 1) x) 𝟘 (f (n + 1)) (ne_eqb (n + 1) x d))))
          (cases_eq (n + 1) x)
        where
          swap : (u v w : F) → (u ⊕ v) ⊕ w ≡ (u ⊕ w) ⊕ v
          swap u v w = sum_assoc laws u v w ∙ ap (λ t. u ⊕ t) (sum_comm laws v w) ∙ sym (sum_assoc laws u w v)

  -- the array, node by node
  module _ (symbol : ℕ → F) (s : Parameters) (d : ℕ → ℕ → F) (i : ℕ) where
    pub array_data : (m : ℕ) → m < s.k → array o symbol s d i m ≡ d i m
    unfolding array
    array_data m h = grind (arith, nat_tests)

    pub array_plain : (m : ℕ) → s.k ≤ m → m < first_step s → array o symbol s d i m ≡ row_symbol o symbol s d i m
    unfolding array
    array_plain m h g = grind (arith, nat_tests)

    pub array_piggyback : (t : ℕ) → 1 ≤ t → t ≤ s.tau → array o symbol s d i (step_node s t) ≡ row_symbol o symbol s d i (step_node s t) ⊕ d (wrap s (i + t)) i
    unfolding array
    array_piggyback t h g =
        let e : step_of s (step_node s t) ≡ t = omega arith in
        let w = ap (λ t. d (wrap s (i + t)) i) e in
        grind (arith, nat_tests)

    pub array_local : (t : ℕ) → s.tau < t → array o symbol s d i (step_node s t) ≡ d (wrap s (i + t)) i ⊕ past o s d i t
    unfolding array
    array_local t g =
        let e : step_of s (step_node s t) ≡ t = omega arith in
        let w = ap (λ t. d (wrap s (i + t)) i) e in
        let p = ap (past o s d i) e in
        grind (arith, nat_tests)

  module _ {size : ℕ} {symbol : ℕ → F} (apart : Apart symbol size) (s : Parameters) (room : s.k < size) where
    -- the row begins with the data that it is made from
    pub row_data : (d : ℕ → ℕ → F) (i m : ℕ) → m < s.k → row_symbol o symbol s d i m ≡ d i m
    unfolding row_symbol
    row_data d i m h =
        interpolate_at laws symbol s.k (λ l m hl hm e. apart l m (omega arith) (omega arith) e) (d i) m h

    -- the nodes 0, .., k of a row follow the row rule
    array_row : (d : ℕ → ℕ → F) (i m : ℕ) → m ≤ s.k → array o symbol s d i m ≡ row_symbol o symbol s d i m
    array_row d i m h =
        ⊎_elim (λ b. array_data symbol s d i m b ∙ sym (row_data d i m b))
        (λ b. array_plain symbol s d i m b (omega arith)) (cases_lt m s.k)

    module _ (d v : ℕ → ℕ → F) (j : ℕ) where
      skip_within : (l : ℕ) → l < s.k → skip j l ≤ s.k
      skip_within l h = omega (arith, skip_bounds j l)

      -- k nodes of a row give every other
      pub around_row : (i m : ℕ) → ((l : ℕ) → l < s.k → v i (skip j l) ≡ array o symbol s d i (skip j l)) → around o symbol s v j i m ≡ row_symbol o symbol s d i m
      unfolding around row_symbol
      around_row i m agree =
          let (p, degree, is) = poly_interpolate laws symbol s.k (d i) in
          let points : ℕ → F = λ l. symbol (skip j l) in
          let skipped : Apart points s.k
          = λ l m hl hm e. skip_injective j l m (apart (skip j l) (skip j m) (omega (arith, skip_within l hl)) (omega (arith, skip_within m hm)) e) in
          let meets : Meets o points s.k (λ l. v i (skip j l)) p
          = λ l h. is (symbol (skip j l)) ∙ sym (agree l h ∙ array_row d i (skip j l) (skip_within l h)) in
          sym (row_rule laws points s.k skipped (λ l. v i (skip j l)) p degree meets (symbol m)) ∙ is (symbol m)

    -- the row rule from the data is that around no gap
    pub around_data : (v : ℕ → ℕ → F) (i m : ℕ) → around o symbol s v s.k i m ≡ row_symbol o symbol s v i m
    around_data v i m =
        around_row v v s.k i m
        (λ l h. sym (array_data symbol s v i (skip s.k l) (grind (arith, nat_tests))))

    module _ (d v : ℕ → ℕ → F) (j : ℕ) (hj : j < s.k) where
      module _ (agree : Agree v (array o symbol s d) (sheet s j)) where
        known : (i m : ℕ) → In (at i m) (listing s j) → v i m ≡ array o symbol s d i m
        unfolding sheet
        known i m h = agree i m (listed_in (sheet s j) (at i m) (in_distinct (listing s j) (at i m) h))

        around_own : (m : ℕ) → around o symbol s v j j m ≡ row_symbol o symbol s d j m
        around_own m = around_row d v j j m (λ l h. known j (skip j l) (in_row s j l h))

        known_own : (m : ℕ) → m < s.k → (m ≡ j → ⊥) → v j m ≡ d j m
        known_own m h n = known j m (in_own s j m hj h n) ∙ array_data symbol s d j m h

        past_own : (t : ℕ) → past o s v j t ≡ past o s d j t
        unfolding past
        past_own t =
            sum_to_as (s.k - t - 1) _ _
            (λ m a b.
            let w = wrapped s (j + m) (omega arith) in
            known_own (wrap s (j + m)) w.below (λ e. ⊎_elim (λ x. omega arith) (λ x. omega arith) w.either))

        module _ (i : ℕ) (hi : i < s.k) where
          own : offset s i j ≡ 0 → around o symbol s v j j j ≡ d i j
          own e = around_own j ∙ row_data d j j hj ∙ ap (λ t. d t j) same
            where
              same : j ≡ i
              same = sym (wrapped_is s (j + 0) j (omega arith) hj (inl (omega arith))) ∙ ap (λ t. wrap s (j + t)) (sym e) ∙ offset_row s i j hi hj

          by_piggyback : (t : ℕ) → offset s i j ≡ t → 1 ≤ t → t ≤ s.tau → v j (step_node s t) ⊖ around o symbol s v j j (step_node s t) ≡ d i j
          by_piggyback t e a b =
              ap₂ ◌⊖◌ (known j (step_node s t) (in_step s j t a (omega arith)) ∙ array_piggyback symbol s d j t a b) (around_own (step_node s t))
              ∙ take_left _ _ ∙ ap (λ r. d r j) (ap (λ t. wrap s (j + t)) (sym e) ∙ offset_row s i j hi hj)

          by_step : (t : ℕ) → offset s i j ≡ t → s.tau < t → t ≤ steps s → v j (step_node s t) ⊖ past o s v j t ≡ d i j
          by_step t e a b =
              ap₂ ◌⊖◌ (known j (step_node s t) (in_step s j t (omega arith) b) ∙ array_local symbol s d j t a) (past_own t)
              ∙ take_right _ _ ∙ ap (λ r. d r j) (ap (λ t. wrap s (j + t)) (sym e) ∙ offset_row s i j hi hj)

          module _ (x : ℕ) (e : offset s i j ≡ x) (far : steps s < x) where
            x_below : x < s.k
            x_below = subst (λ t. t < s.k) e (offset_below s i j hi hj)

            row_is : wrap s (j + x) ≡ i
            row_is = ap (λ t. wrap s (j + t)) (sym e) ∙ offset_row s i j hi hj

            by_row : s.b ≡ 0 → around o symbol s v j i j ≡ d i j
            by_row z =
                around_row d v j i j
                (λ l h. known i (skip j l) (in_far s j x far x_below (at i (skip j l))
                (subst (λ ps. In (at i (skip j l)) ps) (sym (far_row s j x z ∙ ap (λ r. row_places s j r) row_is)) (in_row_places s j i l h))))
                ∙ row_data d i j hj

            module _ (some : 1 ≤ s.b) where
              known_far : (r m : ℕ) → In (at r m) (local_places s x i) → v r m ≡ array o symbol s d r m
              known_far r m h =
                  known r m (in_far s j x far x_below (at r m) (subst (λ ps. In (at r m) ps) (sym (far_local s j x some ∙ ap (λ r. local_places s x r) row_is)) h))

              rest : sum_but o (s.k - x) (reach s - 1) (λ m. v i (wrap s (i + m))) ≡ sum_but o (s.k - x) (reach s - 1) (λ m. d i (wrap s (i + m)))
              rest =
                  sum_but_as (s.k - x) (reach s - 1) _ _
                  (λ m a b n.
                  known_far i (wrap s (i + m)) (in_local_past s x i m x_below far a b n)
                  ∙ array_data symbol s d i (wrap s (i + m)) (wrapped s (i + m) (omega arith)).below)

              whole : past o s d i (steps s) ≡ sum_but o (s.k - x) (reach s - 1) (λ m. d i (wrap s (i + m))) ⊕ d i j
              unfolding past
              whole =
                  let h = x_below in
                  sum_to_but (s.k - x) (reach s - 1) (λ m. d i (wrap s (i + m))) (omega arith) (omega arith)
                  ∙ ap (λ t. sum_but o (s.k - x) (reach s - 1) (λ m. d i (wrap s (i + m))) ⊕ d i t) (ap (λ t. wrap s (i + (s.k - t))) (sym e) ∙ offset_node s i j hi hj)

              pub local_is : by_local o s v (s.k - x) i ≡ d i j
              unfolding by_local
              local_is =
                  let A = d (wrap s (i + steps s)) i in
                  let B = sum_but o (s.k - x) (reach s - 1) (λ m. d i (wrap s (i + m))) in
                  ap₂ ◌⊖◌
                  (ap₂ ◌⊖◌
                  (known_far i (step_node s (steps s)) (in_local_node s x i) ∙ array_local symbol s d i (steps s) (omega arith) ∙ ap (λ t. A ⊕ t) whole)
                  (known_far (wrap s (i + steps s)) i (in_local_step s x i) ∙ array_data symbol s d (wrap s (i + steps s)) i hi)
                  ∙ take_left A (B ⊕ d i j))
                  rest
                  ∙ take_left B (d i j)

          recovered_is : (x : ℕ) → offset s i j ≡ x → recovered_at o symbol s v j i x ≡ d i j
          unfolding recovered_at
          recovered_is x e =
              cond_both (eqb x 0) _ _ (λ t. t ≡ d i j) (λ z. own (e ∙ eqb-true x 0 z))
              (λ z.
              cond_both (leb x s.tau) _ _ (λ t. t ≡ d i j) (λ a. by_piggyback x e (omega (arith, eqb-false x 0 z)) (leb-true x s.tau a))
              (λ a.
              cond_both (leb x (steps s)) _ _ (λ t. t ≡ d i j) (λ b. by_step x e (leb-false x s.tau a) (leb-true x (steps s) b))
              (λ b.
              cond_both (eqb s.b 0) _ _ (λ t. t ≡ d i j) (λ c. by_row x e (leb-false x (steps s) b) (eqb-true s.b 0 c))
              (λ c. local_is x e (leb-false x (steps s) b) (omega (arith, eqb-false s.b 0 c))))))

  pub recovers : {size : ℕ} {symbol : ℕ → F} → Apart symbol size → Recovers o symbol size
  unfolding recovered
  recovers apart s room d v j hj agree i hi = recovered_is apart s room d v j hj agree i hi (offset s i j) refl
