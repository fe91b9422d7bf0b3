-- The loop that reads each place of a listing once, into its slot.
use Rattle.std.proofs.Common.{append_assoc, ◌≡◌, ℕ, ◌+◌, ◌*◌, ◌<◌, ◌≤◌, Bool, true, false, cond, not, ◌&&◌, ◌||◌, eqb, ◌≢◌, ◌⊎◌, List, [], ◌∷◌, ◌++◌, length, get_or, set, is_ok, Ok, sym, refl, ap, ◌∙◌, subst, ap₂, inl, inr, arith, get_or-set_other, get_or-set_same}
use mathlib.Core.Path.{fun_ext}
use lib.Arith.{digits_lt}
use Rattle.std.proofs.Math.Bool.{or-false}
use Rattle.std.proofs.lemmas.List.{append-nil, length_push, length-set, length-append, get_or_past, get_or_read, length-map, get_or-map}
use Rattle.std.proofs.lemmas.Bool.{not-true, not-false, cond_both, or_left, cond-true, cond-false, cases_Bool, both_ways, cases_eq, cases_lt}
use Rattle.store.specs.Meaning.{Meaning, probed, read}
use Rattle.store.specs.Meaning as store
use Rattle.sheet.specs.declared.place.Place.{Place}
use Rattle.sheet.specs.declared.place.Entry.{Entry}
use Rattle.sheet.specs.declared.place.Record.{Record}
use Rattle.sheet.specs.Places.{at, same_place, listed, distinct, distinct_from, places_of, sheet_of}
use Rattle.code.specs.Codes.{Slotted}
use Rattle.calls.specs.Reading.{symbol_at, seen, raised, blank_record}
use Rattle.reading.specs.Checks.{Clear, Readable}
use Rattle.reading.specs.Tables.{has_place, symbol_for, kept, vacant_record, Vacated, spread_over}
use Rattle.sheet.proofs.Lists.{listed_push, listed_append, listed_mid, listed_again, same_place_path, same_place_refl, listed_distinct, distinct_skip, distinct_keep, distinct_few, places_length, places_append}
use Rattle.reading.proofs.Checking.{probed_row}

-- meters that are raised
with_meter : {F : Type 0} → Meaning F → (ℕ → ℕ → ℕ) → Meaning F
with_meter m f = record { rows = m.rows; nodes = m.nodes; life = m.life; symbol = m.symbol; meter = f }

pub raised_none : {F : Type 0} (m : Meaning F) → raised m [] ≡ m
unfolding raised listed
raised_none m = refl

pub raised_same : {F : Type 0} (m : Meaning F) (ps qs : List Place) → ((p : Place) → listed ps p ≡ listed qs p) → raised m ps ≡ raised m qs
unfolding raised with_meter
raised_same m ps qs h = ap (with_meter m) (fun_ext (λ i. fun_ext (λ j. ap (λ b. cond b (m.meter i j + 1) (m.meter i j)) (h (at i j)))))

raise_step : (a b : Bool) (x : ℕ) → (a ≡ true → b ≡ true → ⊥) → cond (b || false) (cond a (x + 1) x + 1) (cond a (x + 1) x) ≡ cond (a || (b || false)) (x + 1) x
raise_step true true x no' = absurd (no' refl refl)
raise_step true false x no' = refl
raise_step false true x no' = refl
raise_step false false x no' = refl

pub raised_push : {F : Type 0} (m : Meaning F) (ps : List Place) (p : Place) → listed ps p ≡ false → raised (raised m ps) (p ∷ []) ≡ raised m (ps ++ (p ∷ []))
unfolding raised with_meter listed
raised_push m ps p new = ap (with_meter m) (fun_ext (λ i. fun_ext (λ j. here i j)))
  where
    clash : (i j : ℕ) → listed ps (at i j) ≡ true → same_place (at i j) p ≡ true → ⊥
    clash i j l s = both_ways (listed ps p) new (rw (same_place_path (at i j) p s) at l)

    here : (i j : ℕ) → cond (same_place (at i j) p || false) (cond (listed ps (at i j)) (m.meter i j + 1) (m.meter i j) + 1) (cond (listed ps (at i j)) (m.meter i j + 1) (m.meter i j)) ≡ cond (listed (ps ++ (p ∷ [])) (at i j)) (m.meter i j + 1) (m.meter i j)
    here i j = raise_step (listed ps (at i j)) (same_place (at i j) p) (m.meter i j) (clash i j) ∙ ap (λ b. cond b (m.meter i j + 1) (m.meter i j)) (sym (listed_push ps p (at i j)))

-- a place that was not read yet is probed as before
pub probed_raised : {F : Type 0} (m : Meaning F) (ps : List Place) (i j : ℕ) → listed ps (at i j) ≡ false → probed (raised m ps) i j ≡ probed m i j
unfolding raised
probed_raised m ps i j new = rw new

-- an accepted read
pub read_raised : {F : Type 0} (m : Meaning F) (i j : ℕ) (s : F) → probed m i j ≡ Ok s → read m i j ≡ raised m (at i j ∷ [])
unfolding raised with_meter listed
read_raised m i j s e = ap (with_meter m) (fun_ext (λ p. fun_ext (λ q. ap (λ b. cond b (m.meter p q + 1) (m.meter p q)) (ap (λ r. is_ok r && store.at i j p q) e ∙ plain (eqb p i && eqb q j)))))
  where
    plain : (b : Bool) → b ≡ (b || false)
    plain true = refl
    plain false = refl

pub symbol_raised : {F : Type 0} (z : F) (m : Meaning F) (ps : List Place) (i j : ℕ) → symbol_at z (raised m ps) i j ≡ symbol_at z m i j
unfolding symbol_at raised
symbol_raised z m ps i j = refl

-- the record of a place that was read
unfoldable pub record_of : {F : Type 0} → F → Meaning F → Place → Record F
record_of z m p = record { place = p; symbol = symbol_at z m p.row p.node }

-- what the loop has done once it has gone through ps
pub record Filled {F : Type 0} (z : F) (m₀ : Meaning F) (slot : ℕ → ℕ → ℕ) (ps : List Place) (m : Meaning F) (mem : List (Record F)) (count : ℕ) : Type 0 where
  pub counted : count ≡ length (distinct ps)
  pub leaves : m ≡ raised m₀ ps
  pub has : (p : Place) → listed ps p ≡ true → get_or mem (slot p.row p.node) (blank_record z) ≡ record_of z m₀ p
  pub rest : (k : ℕ) → k < length mem → (get_or mem k (blank_record z) ≡ vacant_record z) ⊎ (listed ps (get_or mem k (blank_record z)).place ≡ true)

module _ {F : Type 0} (z : F) (m₀ : Meaning F) (slot : ℕ → ℕ → ℕ) where
  pub filled_none : (mem : List (Record F)) → Vacated z mem → Filled z m₀ slot (places_of []) m₀ mem 0
  unfolding places_of distinct distinct_from listed Vacated
  filled_none mem v = record { counted = refl; leaves = sym (raised_none m₀); has = λ p e. cc; rest = λ k l. inl (v k l) }

  -- the table that is left
  pub filled_table : (ps : List Place) (m : Meaning F) (mem : List (Record F)) (count : ℕ) → Filled z m₀ slot ps m mem count → kept z mem slot ≡ seen z m₀ ps
  unfolding kept seen symbol_for has_place record_of blank_record vacant_record
  filled_table ps m mem count f = fun_ext (λ i. fun_ext (λ j. go i j (cases_Bool (listed ps (at i j)))))
    where
      -- what memory has in the slot of a place
      there : ℕ → ℕ → Record F
      there i j = get_or mem (slot i j) (blank_record z)

      bare : (r : Record F) (i j : ℕ) → r.symbol ≡ z → cond (same_place r.place (at i j)) r.symbol z ≡ z
      bare r i j e = cond_both (same_place r.place (at i j)) r.symbol z (λ x. x ≡ z) (λ _. e) (λ _. refl)

      off : (i j : ℕ) → listed ps (at i j) ≡ false → (slot i j < length mem) ⊎ (length mem ≤ slot i j) → cond (same_place (get_or mem (slot i j) (blank_record z)).place (at i j)) (get_or mem (slot i j) (blank_record z)).symbol z ≡ z
      off i j n (inr past) = bare (get_or mem (slot i j) (blank_record z)) i j (ap (λ r. r.symbol) (get_or_past mem (slot i j) (blank_record z) past))
      off i j n (inl lt) = elim (f.rest (slot i j) lt) [
        | inl v ↦ bare (get_or mem (slot i j) (blank_record z)) i j (ap (λ r. r.symbol) v)
        | inr l ↦ cond_both (same_place (get_or mem (slot i j) (blank_record z)).place (at i j)) _ z (λ x. x ≡ z) (λ e. absurd (both_ways (listed ps (at i j)) n (ap (listed ps) (sym (same_place_path _ (at i j) e)) ∙ l))) (λ _. refl)
      ]

      go : (i j : ℕ) → (listed ps (at i j) ≡ true) ⊎ (listed ps (at i j) ≡ false) → cond (same_place (get_or mem (slot i j) (blank_record z)).place (at i j)) (get_or mem (slot i j) (blank_record z)).symbol z ≡ cond (listed ps (at i j)) (symbol_at z m₀ i j) z
      go i j (inl l) = ap (λ r. cond (same_place r.place (at i j)) r.symbol z) (f.has (at i j) l) ∙ cond-true (same_place (at i j) (at i j)) (symbol_at z m₀ i j) z (same_place_refl (at i j)) ∙ sym (cond-true (listed ps (at i j)) (symbol_at z m₀ i j) z l)
      go i j (inr n) = off i j n (cases_lt (slot i j) (length mem)) ∙ sym (cond-false (listed ps (at i j)) (symbol_at z m₀ i j) z n)

-- one place of the listing, after those of the front
module _ {F : Type 0} {z : F} {m₀ : Meaning F} {slot : ℕ → ℕ → ℕ} {es left rest : List Entry} {e : Entry} {m : Meaning F} {mem : List (Record F)} {count room : ℕ} (front : List Entry) (few : m₀.rows ≤ 32) (clear : Clear m₀ (places_of es)) (slots : Slotted es slot room) (same : length mem ≡ room) (whole : front ++ left ≡ es) (step : left ≡ e ∷ rest) (f : Filled z m₀ slot (places_of front) m mem count) where
  parted : places_of es ≡ places_of front ++ (e.place ∷ places_of rest)
  unfolding places_of
  parted = ap places_of (sym whole ∙ ap (λ x. front ++ x) step) ∙ places_append front (e ∷ rest)

  on_list : listed (places_of es) e.place ≡ true
  on_list = ap (λ x. listed x e.place) parted ∙ listed_mid (places_of front) e.place (places_of rest)

  old_on_list : (q : Place) → listed (places_of front) q ≡ true → listed (places_of es) q ≡ true
  old_on_list q l = ap (λ x. listed x q) parted ∙ listed_append (places_of front) (e.place ∷ places_of rest) q ∙ or_left (listed (places_of front) q) (listed (e.place ∷ places_of rest) q) l

  one_more : places_of (front ++ (e ∷ [])) ≡ places_of front ++ (e.place ∷ [])
  unfolding places_of
  one_more = places_append front (e ∷ [])

  here_in : slot e.place.row e.place.node < length mem
  here_in = omega (arith, slots.within e.place.row e.place.node on_list)

  pub slot_in : (k : ℕ) → k ≡ slot e.place.row e.place.node → k < length mem
  slot_in k at-k = omega (arith, here_in)

  -- each place counts once at most
  pub count_below : count < length es
  count_below = omega (arith, f.counted, distinct_few (places_of front), places_length front, ap length (sym whole ∙ ap (λ x. front ++ x) step), length-append front (e ∷ rest))

  -- the next turn has one place more
  pub whole_more : (front ++ (e ∷ [])) ++ rest ≡ es
  whole_more = append_assoc front (e ∷ []) rest ∙ ap (λ x. front ++ x) (sym step) ∙ whole

  -- a record with the place says that it was read
  old_place : same_place (get_or mem (slot e.place.row e.place.node) (blank_record z)).place e.place ≡ true → listed (places_of front) e.place ≡ true
  unfolding vacant_record
  old_place h =
      let q = same_place_path _ e.place h in
      elim (f.rest (slot e.place.row e.place.node) here_in) [
        | inl v ↦ let c = clear e.place.row e.place.node on_list in absurd (omega (arith, ap (λ p. p.row) q, ap (λ r. r.place.row) v, probed_row m₀ e.place.row e.place.node c.0 c.1))
        | inr l ↦ ap (listed (places_of front)) (sym q) ∙ l
      ]

  pub filled_skip : same_place (get_or mem (slot e.place.row e.place.node) (blank_record z)).place e.place ≡ true → Filled z m₀ slot (places_of (front ++ (e ∷ []))) m mem count
  filled_skip h = subst (λ qs. Filled z m₀ slot qs m mem count) (sym one_more) again
    where
      old : listed (places_of front) e.place ≡ true
      old = old_place h

      again : Filled z m₀ slot (places_of front ++ (e.place ∷ [])) m mem count
      again = record {
        counted = f.counted ∙ ap length (sym (distinct_skip (places_of front) e.place (listed_distinct (places_of front) e.place ∙ old)));
        leaves = f.leaves ∙ raised_same m₀ (places_of front) (places_of front ++ (e.place ∷ [])) (λ q. sym (listed_again (places_of front) e.place q old));
        has = λ p l. f.has p (sym (listed_again (places_of front) e.place p old) ∙ l);
        rest = λ k l. elim (f.rest k l) [ inl v ↦ inl v | inr t ↦ inr (listed_again (places_of front) e.place _ old ∙ t) ];
      }

  -- a record without it says that it was not
  new_place : same_place (get_or mem (slot e.place.row e.place.node) (blank_record z)).place e.place ≡ false → listed (places_of front) e.place ≡ false
  unfolding record_of
  new_place h = elim (cases_Bool (listed (places_of front) e.place)) [
    | inr n ↦ n
    | inl l ↦ absurd (both_ways _ h (ap (λ r. same_place r.place e.place) (f.has e.place l) ∙ same_place_refl e.place))
  ]

  pub readable : same_place (get_or mem (slot e.place.row e.place.node) (blank_record z)).place e.place ≡ false → Readable m e.place.row e.place.node
  readable h = let c = clear e.place.row e.place.node on_list in (c.0, ap (λ x. probed x e.place.row e.place.node) f.leaves ∙ probed_raised m₀ (places_of front) e.place.row e.place.node (new_place h) ∙ c.1)

  pub filled_read : same_place (get_or mem (slot e.place.row e.place.node) (blank_record z)).place e.place ≡ false → (m' : Meaning F) (s : F) → s ≡ symbol_at z m e.place.row e.place.node → m' ≡ raised m (e.place ∷ []) → (k : ℕ) → k ≡ slot e.place.row e.place.node → Filled z m₀ slot (places_of (front ++ (e ∷ []))) m' (set mem k (record { place = e.place; symbol = s })) (count + 1)
  unfolding record_of
  filled_read h m' s sym-is left k at-k = subst (λ t. Filled z m₀ slot (places_of (front ++ (e ∷ []))) m' (set mem t (record { place = e.place; symbol = s })) (count + 1)) (sym at-k) (subst (λ qs. Filled z m₀ slot qs m' (set mem (slot e.place.row e.place.node) (record { place = e.place; symbol = s })) (count + 1)) (sym one_more) more)
    where
      ps : List Place
      ps = places_of front

      mem' : List (Record F)
      mem' = set mem (slot e.place.row e.place.node) (record { place = e.place; symbol = s })

      new : listed (places_of front) e.place ≡ false
      new = new_place h

      set_here : get_or (set mem (slot e.place.row e.place.node) (record { place = e.place; symbol = s })) (slot e.place.row e.place.node) (blank_record z) ≡ record { place = e.place; symbol = s }
      set_here = let l = here_in in rw get_or-set_same

      set_away : (k : ℕ) → k ≢ slot e.place.row e.place.node → get_or (set mem (slot e.place.row e.place.node) (record { place = e.place; symbol = s })) k (blank_record z) ≡ get_or mem k (blank_record z)
      set_away k ne = rw get_or-set_other

      is_new : record { place = e.place; symbol = s } ≡ record_of z m₀ e.place
      is_new = ap (λ x. record { place = e.place; symbol = x }) (sym-is ∙ ap (λ x. symbol_at z x e.place.row e.place.node) f.leaves ∙ symbol_raised z m₀ (places_of front) e.place.row e.place.node)

      more : Filled z m₀ slot (places_of front ++ (e.place ∷ [])) m' (set mem (slot e.place.row e.place.node) (record { place = e.place; symbol = s })) (count + 1)
      more = record {
        counted = ap (λ n. n + 1) f.counted ∙ sym (length_push (distinct (places_of front)) e.place) ∙ ap length (sym (distinct_keep (places_of front) e.place (listed_distinct (places_of front) e.place ∙ new)));
        leaves = left ∙ ap (λ x. raised x (e.place ∷ [])) f.leaves ∙ raised_push m₀ (places_of front) e.place new;
        has = λ p l. elim (cases_Bool (same_place p e.place)) [
          | inl t ↦ subst (λ x. get_or mem' (slot x.row x.node) (blank_record z) ≡ record_of z m₀ x) (sym (same_place_path p e.place t)) (set_here ∙ is_new)
          | inr t ↦
              let o : listed (places_of front) p ≡ true = sym (listed_push (places_of front) e.place p ∙ ap (λ b. listed (places_of front) p || (b || false)) t ∙ or-false (listed (places_of front) p)) ∙ l in
              set_away (slot p.row p.node) (λ q. let a = slots.apart p.row p.node e.place.row e.place.node (old_on_list p o) on_list q in both_ways _ new (ap (listed (places_of front)) (ap₂ at (sym a.0) (sym a.1)) ∙ o)) ∙ f.has p o
        ];
        rest = λ k l. elim (cases_eq k (slot e.place.row e.place.node)) [
          | inl t ↦ inr (ap (λ r. listed (places_of front ++ (e.place ∷ [])) r.place) (ap (λ u. get_or mem' u (blank_record z)) t ∙ set_here) ∙ listed_mid (places_of front) e.place [])
          | inr ne ↦ let same = set_away k ne in elim (f.rest k (omega (arith, length-set mem (slot e.place.row e.place.node) (record { place = e.place; symbol = s })))) [
            | inl v ↦ inl (same ∙ v)
            | inr t ↦ inr (ap (λ r. listed (places_of front ++ (e.place ∷ [])) r.place) same ∙ listed_push (places_of front) e.place _ ∙ or_left _ _ t)
          ]
        ];
      }

-- the whole listing
pub filled_all : {F : Type 0} {z : F} {m₀ : Meaning F} {slot : ℕ → ℕ → ℕ} {es left : List Entry} {m : Meaning F} {mem : List (Record F)} {count : ℕ} (front : List Entry) → front ++ left ≡ es → left ≡ [] → Filled z m₀ slot (places_of front) m mem count → Filled z m₀ slot (places_of es) m mem count
filled_all {z = z} {m₀ = m₀} {slot = slot} {m = m} {mem = mem} {count = count} front whole none f =
    subst (λ x. Filled z m₀ slot (places_of x) m mem count) (sym (append-nil front) ∙ ap (λ x. front ++ x) (sym none) ∙ whole) f

-- reading a listing raises the meters of its sheet
pub raised_sheet : {F : Type 0} (m : Meaning F) (es : List Entry) → raised m (places_of es) ≡ raised m (sheet_of es)
unfolding sheet_of
raised_sheet m es = raised_same m (places_of es) (distinct (places_of es)) (λ p. sym (listed_distinct (places_of es) p))

-- the test of the record in a slot
module _ {F : Type 0} (xs : List (Record F)) (k : ℕ) (r b : Record F) (p : Place) (lt : k < length xs) (is : r ≡ get_or xs k r) where
  slot_test : {n : ℕ} → k ≡ n → same_place (get_or xs n b).place p ≡ same_place (get_or xs k r).place p
  slot_test at-n = ap (λ t. same_place (get_or xs t b).place p) (sym at-n) ∙ ap (λ q. same_place q.place p) (sym (get_or_read xs k r lt is b) ∙ is)

  pub slot_other : {n : ℕ} → k ≡ n → true ≡ not (same_place (get_or xs k r).place p) → same_place (get_or xs n b).place p ≡ false
  slot_other at-n h = slot_test at-n ∙ not-true _ (sym h)

  pub slot_same : {n : ℕ} → k ≡ n → false ≡ not (same_place (get_or xs k r).place p) → same_place (get_or xs n b).place p ≡ true
  slot_same at-n h = slot_test at-n ∙ not-false _ (sym h)

-- a memory without a place
pub spread_vacated : {F : Type 0} (z : F) (r : Record F) (mem : List (Record F)) → r ≡ vacant_record z → Vacated z (spread_over r mem)
unfolding Vacated spread_over
spread_vacated z r mem e k l = get_or-map (λ _. r) mem k (blank_record z) (blank_record z) (omega (arith, length-map mem (λ _. r))) ∙ e

-- a place of data is within the slice
pub data_within : {F : Type 0} (xs : List F) (rows columns i j : ℕ) → length xs ≡ rows * columns → i < rows → j < columns → i * columns + j < length xs
data_within xs rows columns i j e li lj = omega (arith, digits_lt {q = i} {m = rows} {r = j} {c = columns} li lj)
