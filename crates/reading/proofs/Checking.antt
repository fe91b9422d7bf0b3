-- The check of a listing, place by place.
use Rattle.std.proofs.Common.{◌≡◌, ℕ, zero, suc, ◌<◌, true, ltb, List, [], ◌∷◌, length, get_or, Ok, Err, Result, sym, refl, ap, ◌∙◌, inl, inr, arith}
use Rattle.std.proofs.lemmas.Bool.{cases_Bool, cond-false, and_parts, ltb-true}
use Rattle.store.specs.Meaning.{Meaning, probed, judged, on, fault}
use Rattle.store.specs.declared.fault.StoreFault.{StoreFault}
use Rattle.store.specs.declared.fault.Cause.TheVariants.{OffStore}
use Rattle.sheet.specs.declared.place.Place.{Place}
use Rattle.sheet.specs.declared.place.Entry.{Entry}
use Rattle.sheet.specs.Places.{at, places_of}
use Rattle.calls.specs.declared.call.CallName.{CallName}
use Rattle.calls.specs.declared.call.SheetFault.{SheetFault}
use Rattle.calls.specs.Faults.{sheet_fault}
use Rattle.calls.specs.Reading.{symbol_at, or_else}
use Rattle.reading.specs.Checks.{checked, checked_next, Clear}
use Rattle.sheet.proofs.Lists.{listed_find, places_length}
use Rattle.calls.proofs.Declines.{probed_some}

-- the check of a place, and of the others after it
module _ {F : Type 0} (call : CallName) (m : Meaning F) (e : Entry) (es : List Entry) where
  pub check_pass : Ok tt ≡ checked call m (e ∷ []) → checked call m (e ∷ es) ≡ checked call m es
  unfolding checked checked_next
  check_pass h = go (probed m e.place.row e.place.node) h
    where
      go : (r : Result F StoreFault) → Ok tt ≡ checked_next call e r (Ok tt) → checked_next call e r (checked call m es) ≡ checked call m es
      go (Ok s) h = refl
      go (Err x) h = cc

  pub check_stop : (f : SheetFault) → Err f ≡ checked call m (e ∷ []) → checked call m (e ∷ es) ≡ Err f
  unfolding checked checked_next
  check_stop f h = go (probed m e.place.row e.place.node) h
    where
      go : (r : Result F StoreFault) → Err f ≡ checked_next call e r (Ok tt) → checked_next call e r (checked call m es) ≡ Err f
      go (Ok s) h = cc
      go (Err x) h = sym h

-- a listing that passed its check is clear
next_ok : {F : Type 0} (call : CallName) (e : Entry) (r : Result F StoreFault) (rest : Result (Unit {0}) SheetFault) → checked_next call e r rest ≡ Ok tt → ((s : F) × (r ≡ Ok s)) × (rest ≡ Ok tt)
unfolding checked_next
next_ok call e (Ok s) rest h = ((s, refl), h)
next_ok call e (Err x) rest h = cc

checked_at : {F : Type 0} (call : CallName) (m : Meaning F) (es : List Entry) (i : ℕ) (p : Place) → i < length es → p ≡ get_or (places_of es) i p → checked call m es ≡ Ok tt → (s : F) × (probed m p.row p.node ≡ Ok s)
unfolding checked places_of
checked_at call m [] i p lt here c = absurd (omega arith)
checked_at call m (e ∷ es) zero p lt here c = rw here (next_ok call e (probed m e.place.row e.place.node) (checked call m es) c).0
checked_at call m (e ∷ es) (suc i) p lt here c = checked_at call m es i p (omega arith) here (next_ok call e (probed m e.place.row e.place.node) (checked call m es) c).1

pub checked_clear : {F : Type 0} (call : CallName) (m : Meaning F) (es : List Entry) → checked call m es ≡ Ok tt → Clear m (places_of es)
checked_clear call m es c i j l = let f = listed_find (places_of es) (at i j) (at i j) l in checked_at call m es f.0 (at i j) (omega (arith, f.1, places_length es)) (sym f.2) c

-- a check that stops names a place of the listing, with its part, that a probe declines
pub record Stopped {F : Type 0} (call : CallName) (m : Meaning F) (es : List Entry) (f : SheetFault) : Type 0 where
  pub index : ℕ
  pub entry : Entry
  pub within : index < length es
  pub on_sheet : get_or es index entry ≡ entry
  pub declined : probed m entry.place.row entry.place.node ≡ Err f.fault
  pub named : f ≡ sheet_fault call entry.part f.fault

pub checked_stops : {F : Type 0} (call : CallName) (m : Meaning F) (es : List Entry) (f : SheetFault) → checked call m es ≡ Err f → Stopped call m es f
unfolding checked checked_next
checked_stops call m [] f h = cc
checked_stops {F} call m (e ∷ es) f h = go (probed m e.place.row e.place.node) refl h (checked_stops call m es f)
  where
    go : (r : Result F StoreFault) → probed m e.place.row e.place.node ≡ r → checked_next call e r (checked call m es) ≡ Err f → (checked call m es ≡ Err f → Stopped call m es f) → Stopped call m (e ∷ es) f
    go (Ok s) p q rest = let t = rest q in record { index = suc t.index; entry = t.entry; within = omega (arith, t.within); on_sheet = t.on_sheet; declined = t.declined; named = t.named }
    go (Err x) p q rest =
        let w : sheet_fault call e.part x ≡ f = cc in
        let v : x ≡ f.fault = ap (λ y. y.fault) w in
        record { index = zero; entry = e; within = omega arith; on_sheet = refl; declined = p ∙ ap Err v; named = sym w ∙ ap (sheet_fault call e.part) v }

-- what a probe answers is held, on the store
module _ {F : Type 0} (m : Meaning F) (i j : ℕ) where
  pub probed_on : (s : F) → probed m i j ≡ Ok s → on m i j ≡ true
  probed_on s e = elim (cases_Bool (on m i j)) [
    | inl t ↦ t
    | inr t ↦ let q : Err (fault i j OffStore) ≡ Ok s = sym (cond-false (on m i j) (judged (m.symbol i j) (m.meter i j) m.life i j) (Err (fault i j OffStore)) t) ∙ e in cc
  ]

  pub probed_symbol : (z s : F) → probed m i j ≡ Ok s → symbol_at z m i j ≡ s
  unfolding symbol_at or_else
  probed_symbol z s e = ap (or_else z) (probed_some m i j s e)

  pub probed_row : (s : F) → probed m i j ≡ Ok s → i < m.rows
  probed_row s e = ltb-true i m.rows (and_parts (ltb i m.rows) (ltb j m.nodes) (probed_on s e)).0
