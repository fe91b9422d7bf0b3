-- Every node from the places of its read sheet. Assumes nothing.
use Rattle.std.proofs.Common.{◌≡◌, ℕ, ◌+◌, ◌-◌, ◌*◌, ◌<◌, ◌≤◌, ltb, length, sym, ap, ◌∙◌, subst, ap₂, ⊎_elim, arith}
use Rattle.std.proofs.lemmas.Bool.Decides.{nat_tests}
use Rattle.std.proofs.lemmas.Bool.{cases_lt, cond-true, cond-false, lt-ltb, le-ltb}
use Rattle.field.specs.Laws.{Operations, FieldLaws}
use Rattle.row.specs.Interpolation.{basis, Apart}
use Rattle.row.proofs.Lagrange.{sum_as, exists, row_rule}
use Rattle.sheet.specs.declared.place.Part.TheVariants.{First}
use Rattle.sheet.specs.Places.{at, distinct, places_of, in_part, sheet_of, Agree}
use Rattle.array.specs.declared.parameters.Parameters.{Parameters}
use Rattle.array.specs.Layout.{steps, wrap, offset, first_step, step_node, step_of}
use Rattle.array.specs.Symbols.{row_symbol, past, array}
use Rattle.array.specs.Sheet.{entries, listing, sheet, offset_places, least_offset, mend_entries, node_sheet}
use Rattle.array.specs.Recovered.{restored}
use Rattle.array.specs.Theorems.{Rows, Restores, SizedClassA, SizedClassB, ParityPlaces}
use Rattle.array.proofs.Members.{In, listed_in, in_listed}
use Rattle.array.proofs.Wraps.{wrapped, offset_step, offset_past}
use Rattle.array.proofs.Parts.{unpart}
use Rattle.array.proofs.Kept.{in_offset, from_offset, offset_once, offset_length}
use Rattle.array.proofs.Recovery.{sum_to_as, array_data, array_plain, array_piggyback, array_local, recovers}

-- the listing and the sheet of a node, by its kind
module _ (s : Parameters) (m : ℕ) where
  pub entries_data : m < s.k → mend_entries s m ≡ entries s m
  unfolding mend_entries
  entries_data h = grind (arith, nat_tests)

  pub entries_parity : s.k ≤ m → mend_entries s m ≡ in_part First (offset_places s (least_offset s m))
  unfolding mend_entries
  entries_parity h = grind (arith, nat_tests)

  pub places_parity : s.k ≤ m → places_of (mend_entries s m) ≡ offset_places s (least_offset s m)
  unfolding places_of
  places_parity h = ap places_of (entries_parity h) ∙ unpart First (offset_places s (least_offset s m))

  pub sheet_data : m < s.k → node_sheet s m ≡ sheet s m
  unfolding node_sheet sheet_of sheet listing
  sheet_data h = ap (λ es. distinct (places_of es)) (entries_data h)

  pub sheet_parity : s.k ≤ m → node_sheet s m ≡ offset_places s (least_offset s m)
  unfolding node_sheet sheet_of
  sheet_parity h = ap distinct (places_parity h) ∙ offset_once s (least_offset s m)

  pub least_a : m < s.k + s.a → least_offset s m ≡ 0
  least_a h = grind (arith, nat_tests)

  pub least_b : s.k + s.a ≤ m → least_offset s m ≡ step_of s m
  least_b h = grind (arith, nat_tests)

pub sized_class_a : SizedClassA
sized_class_a s m a b =
    let e = least_a s m b in
    let l = offset_length s (least_offset s m) in
    ap length (sheet_parity s m a) ∙ l ∙ ap (λ n. s.k * n) (omega arith)

pub sized_class_b : SizedClassB
sized_class_b s t a b =
    let m = step_node s t in
    let e = least_b s m (omega arith) in
    let l = offset_length s (least_offset s m) in
    ap length (sheet_parity s m (omega arith)) ∙ l ∙ ap (λ n. s.k * n) (omega arith)

pub parity_places : ParityPlaces
parity_places s m i c a b = (
  λ e. from_offset s (least_offset s m) (at i c) (subst (λ ps. In (at i c) ps) (sheet_parity s m a) (in_listed (node_sheet s m) (at i c) e)),
  λ hi hc h. listed_in (node_sheet s m) (at i c) (subst (λ ps. In (at i c) ps) (sym (sheet_parity s m a)) (in_offset s (least_offset s m) i c hi hc h)),
)

module _ {F : Type 0} {o : Operations F} (laws : FieldLaws o) {size : ℕ} {symbol : ℕ → F} (apart : Apart symbol size) where
  module _ (s : Parameters) (d v : ℕ → ℕ → F) (i : ℕ) (hi : i < s.k) where
    -- from all data
    from_data : ((r c : ℕ) → r < s.k → c < s.k → v r c ≡ d r c) → (m : ℕ) → s.k ≤ m → m < s.k + s.a → array o symbol s v i m ≡ array o symbol s d i m
    unfolding row_symbol
    from_data same m a b =
        ⊎_elim (λ h. array_plain laws symbol s v i m a h ∙ row m ∙ sym (array_plain laws symbol s d i m a h))
        (λ h.
        let t = step_of s m in
        let e : step_node s t ≡ m = omega arith in
        subst (λ m. array o symbol s v i m ≡ array o symbol s d i m) e
        (array_piggyback laws symbol s v i t (omega arith) (omega arith)
        ∙ ap₂ o.sum (row (step_node s t)) (same (wrap s (i + t)) i (wrapped s (i + t) (omega arith)).below hi)
        ∙ sym (array_piggyback laws symbol s d i t (omega arith) (omega arith)))) (cases_lt m (first_step s))
      where
        row : (m : ℕ) → row_symbol o symbol s v i m ≡ row_symbol o symbol s d i m
        row m = sum_as laws s.k _ _ (λ l h. ap (λ t. o.product t (basis o symbol s.k l (symbol m))) (same i l hi h))

    -- from the data of the step's offset and more
    from_step : (t : ℕ) → s.tau < t → t ≤ steps s → ((r c : ℕ) → r < s.k → c < s.k → t ≤ offset s r c → v r c ≡ d r c)
        → array o symbol s v i (step_node s t) ≡ array o symbol s d i (step_node s t)
    unfolding past
    from_step t a b same =
        let e = offset_step s i t hi (omega arith) in
        array_local laws symbol s v i t a
        ∙ ap₂ o.sum (same (wrap s (i + t)) i (wrapped s (i + t) (omega arith)).below hi (omega arith))
        (sum_to_as laws (s.k - t - 1) _ _ (λ m p q. let f = offset_past s i m hi p (omega arith) in same i (wrap s (i + m)) hi (wrapped s (i + m) (omega arith)).below (omega arith)))
        ∙ sym (array_local laws symbol s d i t a)

  pub rows : Rows o symbol size
  unfolding row_symbol
  rows s room d i =
      let points : Apart symbol s.k = λ l m hl hm e. apart l m (omega arith) (omega arith) e in
      record {
        exists = exists laws symbol s.k points (d i);
        every = λ p degree meets m. row_rule laws symbol s.k points (d i) p degree meets (symbol m);
      }

  pub restores : Restores o symbol size
  unfolding restored
  restores s room d v m hm agree i hi =
      ⊎_elim
      (λ h.
      cond-true (ltb m s.k) _ _ (lt-ltb m s.k h)
      ∙ recovers laws apart s (omega arith) d v m h (subst (λ ps. Agree v (array o symbol s d) ps) (sheet_data s m h) agree) i hi
      ∙ sym (array_data laws symbol s d i m h))
      (λ h.
      let known : (r c : ℕ) → r < s.k → c < s.k → least_offset s m ≤ offset s r c → v r c ≡ d r c
      = λ r c hr hc g. agree r c ((parity_places s m r c h hm).1 hr hc g) ∙ array_data laws symbol s d r c hc in
      cond-false (ltb m s.k) _ _ (le-ltb m s.k h)
      ∙ ⊎_elim
      (λ g. let e = least_a s m g in from_data s d v i hi (λ r c hr hc. known r c hr hc (omega arith)) m h g)
      (λ g.
      let t = step_of s m in
      let e : step_node s t ≡ m = omega arith in
      let f = least_b s m g in
      subst (λ m. array o symbol s v i m ≡ array o symbol s d i m) e
      (from_step s d v i hi t (omega arith) (omega arith) (λ r c hr hc n. known r c hr hc (omega arith))))
      (cases_lt m (s.k + s.a)))
      (cases_lt m s.k)

-- a step's node, as the code has it
module _ {F : Type 0} {o : Operations F} (laws : FieldLaws o) (symbol : ℕ → F) (s : Parameters) (v : ℕ → ℕ → F) (i m t : ℕ) (is : t ≡ step_of s m) (far : first_step s ≤ m) where
  node_is : step_node s t ≡ m
  node_is = omega arith

  pub coded_piggyback : t ≤ s.tau → o.sum (row_symbol o symbol s v i m) (v (wrap s (i + t)) i) ≡ array o symbol s v i m
  coded_piggyback h =
      subst (λ m. o.sum (row_symbol o symbol s v i m) (v (wrap s (i + t)) i) ≡ array o symbol s v i m) node_is (sym (array_piggyback laws symbol s v i t (omega arith) h))

  pub coded_local : s.tau < t → o.sum (v (wrap s (i + t)) i) (past o s v i t) ≡ array o symbol s v i m
  coded_local h = subst (λ m. o.sum (v (wrap s (i + t)) i) (past o s v i t) ≡ array o symbol s v i m) node_is (sym (array_local laws symbol s v i t h))
