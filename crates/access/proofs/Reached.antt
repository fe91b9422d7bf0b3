-- What is owed of a fetch. Assumes nothing.
use Rattle.std.proofs.Common.{◌≡◌, ℕ, ◌+◌, ◌-◌, ◌*◌, ◌<◌, ◌≤◌, true, ◌&&◌, ltb, leb, ◌⊎◌, List, [], ◌∷◌, length, sym, refl, ap, ◌∙◌, subst, ap₂, inl, ⊎_elim, arith}
use Rattle.std.proofs.lemmas.List.{length-map}
use Rattle.std.proofs.lemmas.Bool.{cond_both, cond-true, cond-false, and_from, and_right, lt-ltb, le-ltb}
use Rattle.field.specs.Laws.{Operations, FieldLaws}
use Rattle.row.specs.Interpolation.{Apart}
use Rattle.sheet.specs.declared.place.Place.{Place}
use Rattle.sheet.specs.declared.place.Part.{Part}
use Rattle.sheet.specs.declared.place.Part.TheVariants.{First}
use Rattle.sheet.specs.Places.{at, listed, distinct, places_of, in_part, Agree}
use Rattle.code.specs.Codes.{Slotted}
use Rattle.array.specs.declared.parameters.Parameters.{Parameters}
use Rattle.array.specs.Layout.{nodes, steps, offset}
use Rattle.array.specs.Symbols.{array}
use Rattle.array.proofs.Members.{In, in_listed, listed_in}
use Rattle.array.proofs.Parts.{unpart as part_places}
use Rattle.array.proofs.Once.{Once, distinct_once}
use Rattle.access.specs.Fetch.{way_of, reads, fetch_places, fetch_entries, fetch_size, fetch_symbol, fetch_slot}
use Rattle.access.specs.Theorems.{Fetches}
use Rattle.access.proofs.Offsets.{x_below}
use Rattle.access.proofs.Reading.{parity_place, read, parity_inside, parity_past, reads_once, reads_size}
use Rattle.access.proofs.Slots.{cell_below, cell_apart}
use Rattle.access.proofs.Solving.{solved}

-- the places of a listing in one part
pub unpart : (part : Part) (ps : List Place) → places_of (in_part part ps) ≡ ps
unfolding places_of
unpart part ps = part_places part ps

pub length_part : (part : Part) (ps : List Place) → length (in_part part ps) ≡ length ps
length_part part ps = length-map ps _

pub distinct_self : (ps : List Place) → Once ps → distinct ps ≡ ps
unfolding distinct
distinct_self ps h = distinct_once [] ps h (λ q n. absurd n)

first_in : (ps : List Place) → 1 ≤ length ps → (r : ℕ) × (m : ℕ) × In (at r m) ps
first_in [] h = absurd (omega arith)
first_in (q ∷ ps) h = (q.row, q.node, inl refl)

module _ (p : Parameters) (i j : ℕ) (hi : i < p.k) (hj : j < p.k) where
  places_are : places_of (fetch_entries p i j) ≡ reads p i j (offset p i j) (way_of p (offset p i j))
  unfolding fetch_entries fetch_places
  places_are = unpart First _

  in_reads : (q : Place) → listed (places_of (fetch_entries p i j)) q ≡ true → In q (reads p i j (offset p i j) (way_of p (offset p i j)))
  in_reads q h = subst (λ ps. In q ps) places_are (in_listed (places_of (fetch_entries p i j)) q h)

  reads_in : (q : Place) → In q (reads p i j (offset p i j) (way_of p (offset p i j))) → listed (places_of (fetch_entries p i j)) q ≡ true
  reads_in q h = listed_in (places_of (fetch_entries p i j)) q (subst (λ ps. In q ps) (sym places_are) h)

  abbrev parity : Place
  parity = parity_place p i j (offset p i j) (way_of p (offset p i j))

  -- a place that is read
  kind : (q : Place) → listed (places_of (fetch_entries p i j)) q ≡ true → ((q.row < p.k) × (q.node < p.k) × (q ≡ at i j → ⊥)) ⊎ (q ≡ parity)
  kind q h = read p i j hi hj (offset p i j) refl q (in_reads q h)

  parity_bounds : (parity.row < p.k) × (parity.node < nodes p) × (p.k ≤ parity.node)
  parity_bounds =
      let (a, b) = parity_inside p i j hi hj (offset p i j) refl in (a, b, parity_past p i j hi hj (offset p i j) refl)

  pub fetch_inside : (r m : ℕ) → listed (places_of (fetch_entries p i j)) (at r m) ≡ true → (r < p.k) × (m < nodes p)
  fetch_inside r m h =
      ⊎_elim (λ c. let (a, b, n) = c in (a, omega arith))
      (λ e. let (a, b, c) = parity_bounds in subst (λ q. (q.row < p.k) × (q.node < nodes p)) (sym e) (a, b)) (kind (at r m) h)

  pub fetch_length : length (fetch_entries p i j) ≡ fetch_size p (offset p i j)
  unfolding fetch_entries fetch_places
  fetch_length = length_part First _ ∙ reads_size p i j hi hj (offset p i j) refl

  size_some : 1 ≤ fetch_size p (offset p i j)
  size_some =
      let b = x_below p i j hi hj (offset p i j) refl in
      cond_both (ltb p.tau (offset p i j) && ltb 0 p.b) _ _ (λ n. 1 ≤ n)
      (λ _. cond_both (leb (offset p i j) (steps p)) _ _ (λ n. 1 ≤ p.k - n) (λ _. omega arith) (λ _. omega arith)) (λ _. omega arith)

  pub fetch_some : (r : ℕ) × (m : ℕ) × (listed (places_of (fetch_entries p i j)) (at r m) ≡ true)
  fetch_some =
      let s = size_some in
      let l = reads_size p i j hi hj (offset p i j) refl in
      let (r, m, h) = first_in (reads p i j (offset p i j) (way_of p (offset p i j))) (omega arith) in
      (r, m, reads_in (at r m) h)

  pub fetch_apart : listed (places_of (fetch_entries p i j)) (at i j) ≡ true → ⊥
  fetch_apart h =
      ⊎_elim (λ c. let (a, b, n) = c in n refl) (λ e. let (a, b, c) = parity_bounds in let n : j ≡ parity.node = ap (λ q. q.node) e in omega arith) (kind (at i j) h)

  pub fetch_once : distinct (places_of (fetch_entries p i j)) ≡ places_of (fetch_entries p i j)
  fetch_once = distinct_self (places_of (fetch_entries p i j)) (subst (λ ps. Once ps) (sym places_are) (reads_once p i j hi hj (offset p i j) refl))

  -- the slots
  slot_data : (r m : ℕ) → r < p.k → m < p.k → fetch_slot p i j r m ≡ p.k * r + m
  slot_data r m a b = cond-true (ltb r p.k && ltb m p.k) _ _ (and_from (ltb r p.k) (ltb m p.k) (lt-ltb r p.k a) (lt-ltb m p.k b))

  slot_parity : (r m : ℕ) → at r m ≡ parity → fetch_slot p i j r m ≡ p.k * i + j
  slot_parity r m e =
      let (a, b, c) = parity_bounds in
      let n : m ≡ parity.node = ap (λ q. q.node) e in
      cond-false (ltb r p.k && ltb m p.k) _ _ (and_right (ltb r p.k) (ltb m p.k) (le-ltb m p.k (omega arith)))

  never : (r m s n : ℕ) → r < p.k → m < p.k → (at r m ≡ at i j → ⊥) → at s n ≡ parity → fetch_slot p i j r m ≡ fetch_slot p i j s n → ⊥
  never r m s n a b c e h =
      let (u, v) = cell_apart p.k r m i j b hj (sym (slot_data r m a b) ∙ h ∙ slot_parity s n e) in c (ap₂ at u v)

  pub fetch_slots : Slotted (fetch_entries p i j) (fetch_slot p i j) (p.k * p.k)
  fetch_slots = record { within = within; apart = apart }
    where
      within : (r m : ℕ) → listed (places_of (fetch_entries p i j)) (at r m) ≡ true → fetch_slot p i j r m < p.k * p.k
      within r m h =
          ⊎_elim (λ c. let (a, b, n) = c in subst (λ t. t < p.k * p.k) (sym (slot_data r m a b)) (cell_below p.k r m a b))
          (λ e. subst (λ t. t < p.k * p.k) (sym (slot_parity r m e)) (cell_below p.k i j hi hj)) (kind (at r m) h)

      apart : (r m s n : ℕ) → listed (places_of (fetch_entries p i j)) (at r m) ≡ true → listed (places_of (fetch_entries p i j)) (at s n) ≡ true
          → fetch_slot p i j r m ≡ fetch_slot p i j s n → (r ≡ s) × (m ≡ n)
      apart r m s n h g e =
          ⊎_elim
          (λ c.
          let (a, b, x) = c in
          ⊎_elim (λ z. let (u, v, y) = z in cell_apart p.k r m s n b v (sym (slot_data r m a b) ∙ e ∙ slot_data s n u v)) (λ z. absurd (never r m s n a b x z e)) (kind (at s n) g))
          (λ c.
          ⊎_elim (λ z. let (u, v, y) = z in absurd (never s n r m u v y c (sym e))) (λ z. let w = c ∙ sym z in (ap (λ q. q.row) w, ap (λ q. q.node) w)) (kind (at s n) g))
          (kind (at r m) h)

module _ {F : Type 0} {o : Operations F} (laws : FieldLaws o) {size : ℕ} {symbol : ℕ → F} (apart : Apart symbol size) where
  pub fetch_right : (p : Parameters) → p.k < size → (i j : ℕ) → i < p.k → j < p.k → (d f : ℕ → ℕ → F)
      → Agree f (array o symbol p d) (places_of (fetch_entries p i j)) → fetch_symbol o symbol p f i j ≡ d i j
  unfolding fetch_symbol
  fetch_right p room i j hi hj d f agree =
      solved laws apart p room i j hi hj (offset p i j) refl d f (λ r m h. agree r m (reads_in p i j hi hj (at r m) h))

  pub fetches : Fetches o symbol size
  fetches p room i j hi hj = record {
    inside = fetch_inside p i j hi hj;
    some = fetch_some p i j hi hj;
    apart = fetch_apart p i j hi hj;
    once = fetch_once p i j hi hj;
    size = fetch_length p i j hi hj;
    slots = fetch_slots p i j hi hj;
    right = fetch_right p (omega arith) i j hi hj;
  }
