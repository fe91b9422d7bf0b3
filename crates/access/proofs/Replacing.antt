-- What is owed of a put. Assumes nothing.
use Rattle.std.proofs.Common.{◌≡◌, ℕ, ◌+◌, ◌-◌, ◌<◌, ◌≤◌, true, cond, List, ◌∷◌, ◌++◌, length, sym, refl, ap, ◌∙◌, subst, ap₂, inl, inr, ⊎_elim, arith}
use Rattle.std.proofs.lemmas.Bool.{cases_lt, cases_eq, cond-true, cond-false}
use Rattle.field.specs.Laws.{Operations, FieldLaws}
use Rattle.row.specs.Interpolation.{basis}
use Rattle.row.proofs.Algebra.{sum_comm, sum_assoc, one_product}
use Rattle.sheet.specs.declared.place.Place.{Place}
use Rattle.sheet.specs.declared.place.Part.TheVariants.{First}
use Rattle.sheet.specs.Places.{at, listed, distinct, places_of}
use Rattle.code.specs.Codes.{replaced}
use Rattle.array.specs.declared.parameters.Parameters.{Parameters}
use Rattle.array.specs.Layout.{nodes, steps, wrap, offset, first_step, step_node, step_of}
use Rattle.array.specs.Symbols.{array}
use Rattle.array.proofs.Members.{In, in_listed, listed_in, not_listed}
use Rattle.array.proofs.Once.{Once}
use Rattle.array.proofs.Wraps.{wrapped}
use Rattle.array.proofs.Recovery.{array_data, array_plain, array_piggyback, array_local}
use Rattle.access.specs.Put.{rule_places, crossed_places, carried_places, put_places, put_entries, put_size, put_weight}
use Rattle.access.specs.Theorems.{Puts}
use Rattle.access.proofs.Offsets.{x_below, off_diagonal, up_row, row_up, past_node, node_past}
use Rattle.access.proofs.Reached.{unpart, length_part, distinct_self}
use Rattle.access.proofs.Weights.{weight_rule, weight_row, weight_data, weight_step}
use Rattle.access.proofs.Changing.{off, on, plus, row_off, row_on, past_off, past_on}
use Rattle.access.proofs.Touched.{Touched, touched, in_data, in_rule, in_crossed, in_carried, put_once, put_length, touched_inside}

module _ {F : Type 0} {o : Operations F} (laws : FieldLaws o) (symbol : ℕ → F) (p : Parameters) (i j : ℕ) (hi : i < p.k) (hj : j < p.k) (x : ℕ) (is : offset p i j ≡ x) where
  open o use {one as 𝟙, sum as ◌⊕◌, product as ◌⊗◌, difference as ◌⊖◌}

  infixl 60 ◌⊕◌
  infixl 60 ◌⊖◌
  infixl 70 ◌⊗◌
  module _ (d : ℕ → ℕ → F) (v : F) where
    abbrev new : ℕ → ℕ → F
    new r m = array o symbol p (replaced d i j v) r m

    abbrev old : ℕ → ℕ → F
    old r m = array o symbol p d r m

    abbrev Right : ℕ → ℕ → Type 0
    Right r m = new r m ≡ cond (listed (put_places p i j x) (at r m)) (old r m ⊕ put_weight o symbol p i j r m ⊗ (v ⊖ d i j)) (old r m)

    changed : (r m : ℕ) (w : F) → In (at r m) (put_places p i j x) → put_weight o symbol p i j r m ≡ w → new r m ≡ old r m ⊕ w ⊗ (v ⊖ d i j) → Right r m
    changed r m w h e n =
        n ∙ ap (λ w. old r m ⊕ w ⊗ (v ⊖ d i j)) (sym e) ∙ sym (cond-true (listed (put_places p i j x) (at r m)) _ _ (listed_in (put_places p i j x) (at r m) h))

    kept : (r m : ℕ) → (Touched p i j hi hj x is (at r m) → ⊥) → new r m ≡ old r m → Right r m
    kept r m n e =
        e ∙ sym (cond-false (listed (put_places p i j x) (at r m)) _ _ (not_listed (put_places p i j x) (at r m) (λ h. n (touched p i j hi hj x is (at r m) h))))

    -- a sum with one part changed
    once_more : (u : F) → u ⊕ (v ⊖ d i j) ≡ u ⊕ 𝟙 ⊗ (v ⊖ d i j)
    once_more u = ap (λ t. u ⊕ t) (sym (one_product laws (v ⊖ d i j)))

    swap : (u w e : F) → (u ⊕ e) ⊕ w ≡ (u ⊕ w) ⊕ e
    swap u w e = sum_assoc laws u e w ∙ ap (λ t. u ⊕ t) (sum_comm laws e w) ∙ sym (sum_assoc laws u w e)

    -- the data nodes
    at_data : (r m : ℕ) → m < p.k → Right r m
    at_data r m h =
        ⊎_elim (λ e. ⊎_elim (λ f. subst (λ r. Right r m) (sym e) (subst (λ m. Right i m) (sym f) here)) (λ n. other (λ _ f. n f)) (cases_eq m j)) (λ n. other (λ e _. n e)) (cases_eq r i)
      where
        here : Right i j
        here =
            changed i j 𝟙 (in_data p i j hi hj x is) (weight_data o symbol p i j i j hj)
            (array_data laws symbol p (replaced d i j v) i j hj ∙ on laws symbol p d i j v ∙ sym (plus laws symbol p d i j v)
            ∙ once_more (d i j) ∙ ap (λ t. t ⊕ 𝟙 ⊗ (v ⊖ d i j)) (sym (array_data laws symbol p d i j hj)))

        other : (r ≡ i → m ≡ j → ⊥) → Right r m
        other n =
            kept r m
            (λ t.
            ⊎_elim (λ e. n (ap (λ q. q.row) e) (ap (λ q. q.node) e))
            (λ t. ⊎_elim (λ q. let f = q.from in omega arith) (λ t. ⊎_elim (λ q. let f = q.node in omega arith) (λ q. let f = q.node in omega arith) t) t) t)
            (array_data laws symbol p (replaced d i j v) r m h ∙ off laws symbol p d i j v r m n ∙ sym (array_data laws symbol p d r m h))

    -- the plain nodes
    at_plain : (r m : ℕ) → p.k ≤ m → m < first_step p → Right r m
    at_plain r m a b = ⊎_elim (λ e. subst (λ r. Right r m) (sym e) here) other (cases_eq r i)
      where
        here : Right i m
        here =
            changed i m (basis o symbol p.k j (symbol m)) (in_rule p i j hi hj x is m a (omega arith)) (weight_rule o symbol p i j i m refl a (omega arith))
            (array_plain laws symbol p (replaced d i j v) i m a b ∙ row_on laws symbol p d i j v hj m
            ∙ ap (λ t. t ⊕ basis o symbol p.k j (symbol m) ⊗ (v ⊖ d i j)) (sym (array_plain laws symbol p d i m a b)))

        other : (r ≡ i → ⊥) → Right r m
        other n =
            kept r m
            (λ t.
            ⊎_elim (λ e. n (ap (λ q. q.row) e))
            (λ t. ⊎_elim (λ q. n q.row) (λ t. ⊎_elim (λ q. n q.row) (λ q. let f = q.node in omega arith) t) t) t)
            (array_plain laws symbol p (replaced d i j v) r m a b ∙ row_off laws symbol p d i j v r m n ∙ sym (array_plain laws symbol p d r m a b))

    -- the nodes of the steps
    module _ (t : ℕ) (some : 1 ≤ t) (within : t ≤ steps p) where
      -- the first term of a step
      turned : wrap p (i + t) ≡ i → ⊥
      turned e = let w = wrapped p (i + t) (omega arith) in ⊎_elim (λ f. omega arith) (λ f. omega arith) w.either

      first_own : replaced d i j v (wrap p (i + t)) i ≡ d (wrap p (i + t)) i
      first_own = off laws symbol p d i j v (wrap p (i + t)) i (λ e _. turned e)

      first_off : (r : ℕ) → (r ≡ j → t ≡ x → ⊥) → replaced d i j v (wrap p (r + t)) r ≡ d (wrap p (r + t)) r
      first_off r n =
          off laws symbol p d i j v (wrap p (r + t)) r
          (λ e f. n f (up_row p i j hi hj x is t (omega arith) (ap (λ r. wrap p (r + t)) (sym f) ∙ e)))

      module _ (e : t ≡ x) where
        lands : wrap p (j + t) ≡ i
        lands = ap (λ t. wrap p (j + t)) e ∙ row_up p i j hi hj x is

        first_new : replaced d i j v (wrap p (j + t)) j ≡ d (wrap p (j + t)) j ⊕ (v ⊖ d i j)
        first_new =
            ap (λ r. replaced d i j v r j) lands ∙ on laws symbol p d i j v ∙ sym (plus laws symbol p d i j v)
            ∙ ap (λ r. d r j ⊕ (v ⊖ d i j)) (sym lands)

        carried : In (at j (step_node p t)) (put_places p i j x)
        carried =
            subst (λ t. In (at j (step_node p t)) (put_places p i j x)) (sym e) (in_carried p i j hi hj x is (subst (λ t. 1 ≤ t) e some) (subst (λ t. t ≤ steps p) e within))

        apart : j ≡ i → ⊥
        apart f = off_diagonal p i j hi hj x is (omega arith) (sym f)

      -- a place of another row that is not carried
      untouched : (r : ℕ) → (r ≡ i → ⊥) → (r ≡ j → t ≡ x → ⊥) → Touched p i j hi hj x is (at r (step_node p t)) → ⊥
      untouched r n c (inl e) = n (ap (λ q. q.row) e)
      untouched r n c (inr (inl q)) = n q.row
      untouched r n c (inr (inr (inl q))) = n q.row
      untouched r n c (inr (inr (inr q))) = let f = q.node in let g = q.some in c q.row (omega arith)

      -- a piggybacked node
      module _ (light : t ≤ p.tau) where
        at_piggyback : (r : ℕ) → Right r (step_node p t)
        at_piggyback r =
            ⊎_elim (λ e. subst (λ r. Right r (step_node p t)) (sym e) here)
            (λ n. ⊎_elim (λ e. ⊎_elim (λ f. subst (λ r. Right r (step_node p t)) (sym e) (there f)) (λ f. other n (λ _ g. f g)) (cases_eq t x)) (λ e. other n (λ g _. e g)) (cases_eq r j))
            (cases_eq r i)
          where
            here : Right i (step_node p t)
            here =
                let B = basis o symbol p.k j (symbol (step_node p t)) in
                changed i (step_node p t) B (in_rule p i j hi hj x is (step_node p t) (omega arith) (omega arith)) (weight_rule o symbol p i j i (step_node p t) refl (omega arith) (omega arith))
                (array_piggyback laws symbol p (replaced d i j v) i t some light
                ∙ ap₂ ◌⊕◌ (row_on laws symbol p d i j v hj (step_node p t)) first_own
                ∙ swap _ _ _ ∙ ap (λ u. u ⊕ B ⊗ (v ⊖ d i j)) (sym (array_piggyback laws symbol p d i t some light)))

            there : t ≡ x → Right j (step_node p t)
            there e =
                changed j (step_node p t) 𝟙 (carried e) (weight_row o symbol p i j j (step_node p t) (apart e))
                (array_piggyback laws symbol p (replaced d i j v) j t some light
                ∙ ap₂ ◌⊕◌ (row_off laws symbol p d i j v j (step_node p t) (apart e)) (first_new e)
                ∙ sym (sum_assoc laws _ _ _) ∙ ap (λ u. u ⊕ (v ⊖ d i j)) (sym (array_piggyback laws symbol p d j t some light)) ∙ once_more _)

            other : (r ≡ i → ⊥) → (r ≡ j → t ≡ x → ⊥) → Right r (step_node p t)
            other n c =
                kept r (step_node p t) (untouched r n c)
                (array_piggyback laws symbol p (replaced d i j v) r t some light
                ∙ ap₂ ◌⊕◌ (row_off laws symbol p d i j v r (step_node p t) n) (first_off r c)
                ∙ sym (array_piggyback laws symbol p d r t some light))

      -- a Class B node
      module _ (heavy : p.tau < t) where
        at_local : (r : ℕ) → Right r (step_node p t)
        at_local r =
            ⊎_elim (λ e. subst (λ r. Right r (step_node p t)) (sym e) (⊎_elim crossed passed (cases_lt t x)))
            (λ n. ⊎_elim (λ e. ⊎_elim (λ f. subst (λ r. Right r (step_node p t)) (sym e) (there f)) (λ f. other n (λ _ g. f g)) (cases_eq t x)) (λ e. other n (λ g _. e g)) (cases_eq r j))
            (cases_eq r i)
          where
            crossed : t < x → Right i (step_node p t)
            crossed h =
                let b = x_below p i j hi hj x is in
                changed i (step_node p t) 𝟙 (in_crossed p i j hi hj x is t heavy within h) (weight_step o symbol p i j i (step_node p t) (omega arith))
                (array_local laws symbol p (replaced d i j v) i t heavy
                ∙ ap₂ ◌⊕◌ first_own
                (past_on laws symbol p d i j v t (p.k - x) (omega arith) (omega arith) (node_past p i j hi hj x is) (λ m a c z. past_node p i j hi hj x is m a (omega arith) z))
                ∙ sym (sum_assoc laws _ _ _) ∙ ap (λ u. u ⊕ (v ⊖ d i j)) (sym (array_local laws symbol p d i t heavy)) ∙ once_more _)

            free : x ≤ t → Touched p i j hi hj x is (at i (step_node p t)) → ⊥
            free h (inl e) = let f : step_node p t ≡ j = ap (λ q. q.node) e in omega arith
            free h (inr (inl q)) = let f = q.below in omega arith
            free h (inr (inr (inl q))) = let f = q.node in let g = q.before in let s = q.past in omega arith
            free h (inr (inr (inr q))) = off_diagonal p i j hi hj x is q.some q.row

            passed : x ≤ t → Right i (step_node p t)
            passed h =
                kept i (step_node p t) (free h)
                (array_local laws symbol p (replaced d i j v) i t heavy
                ∙ ap₂ ◌⊕◌ first_own (past_off laws symbol p d i j v i t (λ m a c _ z. let e = past_node p i j hi hj x is m a (omega arith) z in omega arith))
                ∙ sym (array_local laws symbol p d i t heavy))

            there : t ≡ x → Right j (step_node p t)
            there e =
                changed j (step_node p t) 𝟙 (carried e) (weight_row o symbol p i j j (step_node p t) (apart e))
                (array_local laws symbol p (replaced d i j v) j t heavy
                ∙ ap₂ ◌⊕◌ (first_new e) (past_off laws symbol p d i j v j t (λ m a c f z. apart e f))
                ∙ swap _ _ _ ∙ ap (λ u. u ⊕ (v ⊖ d i j)) (sym (array_local laws symbol p d j t heavy)) ∙ once_more _)

            other : (r ≡ i → ⊥) → (r ≡ j → t ≡ x → ⊥) → Right r (step_node p t)
            other n c =
                kept r (step_node p t) (untouched r n c)
                (array_local laws symbol p (replaced d i j v) r t heavy
                ∙ ap₂ ◌⊕◌ (first_off r c) (past_off laws symbol p d i j v r t (λ m a b f z. n f))
                ∙ sym (array_local laws symbol p d r t heavy))

    pub right : (r m : ℕ) → m < nodes p → Right r m
    right r m h =
        ⊎_elim (λ a. at_data r m a)
        (λ a.
        ⊎_elim (λ b. at_plain r m a b)
        (λ b.
        let t = step_of p m in
        let e : step_node p t ≡ m = omega arith in
        subst (λ m. Right r m) e
        (⊎_elim (λ c. at_local t (omega arith) (omega arith) c r) (λ c. at_piggyback t (omega arith) (omega arith) c r) (cases_lt p.tau t)))
        (cases_lt m (first_step p)))
        (cases_lt m p.k)

module _ (p : Parameters) (i j : ℕ) (hi : i < p.k) (hj : j < p.k) where
  pub put_places_are : places_of (put_entries p i j) ≡ put_places p i j (offset p i j)
  unfolding put_entries
  put_places_are = unpart First _

  pub put_inside : (r m : ℕ) → listed (places_of (put_entries p i j)) (at r m) ≡ true → (r < p.k) × (m < nodes p)
  put_inside r m h =
      touched_inside p i j hi hj (offset p i j) refl r m
      (touched p i j hi hj (offset p i j) refl (at r m) (subst (λ ps. In (at r m) ps) put_places_are (in_listed (places_of (put_entries p i j)) (at r m) h)))

  pub put_distinct : distinct (places_of (put_entries p i j)) ≡ places_of (put_entries p i j)
  put_distinct = distinct_self (places_of (put_entries p i j)) (subst (λ ps. Once ps) (sym put_places_are) (put_once p i j hi hj (offset p i j) refl))

  pub put_first : (rest : List Place) × (places_of (put_entries p i j) ≡ at i j ∷ rest)
  unfolding put_places
  put_first = (rule_places p i ++ (crossed_places p i (offset p i j) ++ carried_places p j (offset p i j)), put_places_are)

  pub put_size_is : length (put_entries p i j) ≡ put_size p (offset p i j)
  unfolding put_entries
  put_size_is = length_part First _ ∙ put_length p i j hi hj (offset p i j) refl

module _ {F : Type 0} {o : Operations F} (laws : FieldLaws o) (symbol : ℕ → F) where
  pub puts : Puts o symbol
  puts p i j hi hj = record {
    inside = put_inside p i j hi hj;
    once = put_distinct p i j hi hj;
    first = put_first p i j hi hj;
    size = put_size_is p i j hi hj;
    right = λ d v r m hr hm.
        right laws symbol p i j hi hj (offset p i j) refl d v r m hm
        ∙ ap (λ ps. cond (listed ps (at r m)) (o.sum (array o symbol p d r m) (o.product (put_weight o symbol p i j r m) (o.difference v (d i j)))) (array o symbol p d r m)) (sym (put_places_are p i j hi hj));
  }
