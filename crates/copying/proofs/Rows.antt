-- Copying row by row.
use Rattle.std.proofs.Common.{◌≡◌, ℕ, zero, suc, ◌+◌, ◌<◌, ◌≤◌, Bool, true, false, cond, ltb, is_some, is_ok, Some, None, Ok, Err, Option, Result, sym, refl, ap, ◌∙◌, ⊎_elim, add-one, arith}
use Rattle.std.proofs.lemmas.Bool.{false≢true, cases_lt}
use Rattle.std.proofs.lemmas.Bool.Decides.{nat_tests}
use Rattle.store.specs.declared.fault.StoreFault.{StoreFault}
use Rattle.store.specs.Meaning.{Meaning, on, probed, metered, read, written}
use Rattle.store.proofs.Same.{same, probed_held}
use Rattle.copying.specs.declared.fault.CopyFault.{CopyFault}
use Rattle.copying.specs.Copies.{place_fault, row_fault, copy_fault, first, answered, drained, filled}

-- the fault behind an answer
pub answered_ok : (o : Option CopyFault) (u : Unit {0}) → Ok u ≡ answered o → o ≡ None
answered_ok None u e = refl
answered_ok (Some f) u e = absurd (false≢true (sym (ap is_ok e)))

pub answered_err : (o : Option CopyFault) (f : CopyFault) → Err f ≡ answered o → o ≡ Some f
answered_err None f e = absurd (false≢true (ap is_ok e))
answered_err (Some g) f e = cc

both_ok : {F : Type 0} (r : Result F StoreFault) (q : Result ℕ StoreFault) → place_fault r q ≡ None → (is_ok r ≡ true) × (is_ok q ≡ true)
both_ok (Err f) q e = absurd (false≢true (sym (ap is_some e)))
both_ok (Ok x) (Err f) e = absurd (false≢true (sym (ap is_some e)))
both_ok (Ok x) (Ok n) e = (refl, refl)

first_none : (o p : Option CopyFault) → first o p ≡ None → (o ≡ None) × (p ≡ None)
first_none None p e = (refl, e)
first_none (Some f) p e = absurd (false≢true (sym (ap is_some e)))

-- places on a store answer their meter
metered_on : (b : Bool) (r : Result ℕ StoreFault) (n : ℕ) → is_ok (cond b (Ok n) r) ≡ true → is_ok r ≡ false → b ≡ true
metered_on true r n e f = refl
metered_on false r n e f = absurd (false≢true (sym f ∙ e))

module _ {F : Type 0} (m : Meaning F) (source : ℕ) (t : Meaning F) (target : ℕ) where
  abbrev fault : ℕ → Option CopyFault
  fault = copy_fault m source t target

  pub fault_more : (row : ℕ) → fault row ≡ None → row_fault m source t target row ≡ None → fault (row + 1) ≡ None
  fault_more row h k = rw add-one (rw h k)

  fault_on : (f : CopyFault) (n k : ℕ) → n ≤ k → fault n ≡ Some f → fault k ≡ Some f
  fault_on f n zero l h = let e : 0 ≡ n = omega arith in ap fault e ∙ h
  fault_on f n (suc k) l h = ⊎_elim (λ s. let e : suc k ≡ n = omega arith in ap fault e ∙ h) (λ s. ap (λ (o : Option CopyFault). first o (row_fault m source t target k)) (fault_on f n k s h)) (cases_lt k n)

  -- the first row that is not copied decides
  pub fault_found : (row rows : ℕ) (f : CopyFault) → row < rows → fault row ≡ None → row_fault m source t target row ≡ Some f → fault rows ≡ Some f
  fault_found row rows f l h k = fault_on f (suc row) rows l (rw h k)

  -- where all are copied, each is
  pub fault_none : (rows row : ℕ) → fault rows ≡ None → row < rows → row_fault m source t target row ≡ None
  fault_none zero row h l = absurd (omega arith)
  fault_none (suc rows) row h l =
      let p = first_none (fault rows) (row_fault m source t target rows) h in
      ⊎_elim (λ s. fault_none rows row p.0 s) (λ s. let e : row ≡ rows = omega arith in ap (row_fault m source t target) e ∙ p.1) (cases_lt row rows)

  -- a row that was not read yet answers as it did
  still_probed : (row : ℕ) → probed (drained m source row) row source ≡ probed m row source
  still_probed row = let e : ltb row row ≡ false = grind (arith, nat_tests) in rw e

  pub drained_more : (row : ℕ) → row_fault m source t target row ≡ None → read (drained m source row) row source ≡ drained m source (row + 1)
  drained_more row h =
      let o : is_ok (probed (drained m source row) row source) ≡ true = ap is_ok (still_probed row) ∙ (both_ok (probed m row source) (metered t row target) h).0 in
      same (read (drained m source row) row source) (drained m source (row + 1)) refl refl refl (λ i j. refl) (λ i j. rw o (grind (arith, nat_tests)))

  pub filled_more : (row : ℕ) (x : F) → row_fault m source t target row ≡ None → Ok x ≡ probed (drained m source row) row source → written (filled t target row m source) row target x ≡ filled t target (row + 1) m source
  filled_more row x h e =
      let o = metered_on (on t row target) _ (t.meter row target) (both_ok (probed m row source) (metered t row target) h).1 refl in
      let s = probed_held (drained m source row) row source x e in
      same (written (filled t target row m source) row target x) (filled t target (row + 1) m source) refl refl refl
      (λ i j. let k : i ≡ row → m.symbol i source ≡ Some x = λ q. ap (λ (n : ℕ). m.symbol n source) q ∙ s in rw o (grind (arith, nat_tests)))
      (λ i j. refl)

  -- and so it does not decline
  pub never_declined : (row : ℕ) (f : StoreFault) → row_fault m source t target row ≡ None → Err f ≡ probed (drained m source row) row source → ⊥
  never_declined row f h e = false≢true (ap is_ok e ∙ (ap is_ok (still_probed row) ∙ (both_ok (probed m row source) (metered t row target) h).0))
