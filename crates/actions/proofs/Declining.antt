-- The checks of a call, in their order.
use Rattle.std.proofs.Common.{◌≡◌, ℕ, zero, suc, ◌*◌, ◌<◌, ◌≤◌, Bool, true, false, cond, eqb, ◌⊎◌, Some, None, Ok, Err, Option, Result, is_ok, ap, sym, refl, ◌∙◌, inl, inr, mul-le-mul, arith}
use Rattle.std.proofs.lemmas.Bool.{false≢true, cond-true, cases_eq, or_left, or_right}
use Rattle.store.specs.Meaning.{Meaning, on, judged, probed, fault}
use Rattle.store.specs.declared.fault.StoreFault.{StoreFault}
use Rattle.store.specs.declared.fault.Cause.{Cause}
use Rattle.store.specs.declared.fault.Cause.TheVariants.{OffStore, Blank, Worn}
use Rattle.code.specs.Codes.{is_blank}
use Rattle.calls.specs.Calls.{any_blank}
use Rattle.actions.specs.Allowing.{allowed}
use Rattle.calls.specs.declared.call.Reason.{Reason}

-- an answer of the checks, and the reason behind it
pub allowed_ok : {d : Option Reason} {u : Unit {0}} → Ok u ≡ allowed d → d ≡ None
unfolding allowed
allowed_ok {d = None} e = refl
allowed_ok {d = Some r} e = cc

pub allowed_none : {d : Option Reason} {r : Result (Unit {0}) Reason} → r ≡ allowed d → true ≡ is_ok r → d ≡ None
unfolding allowed
allowed_none {d = None} e h = refl
allowed_none {d = Some x} e h = absurd (false≢true (sym (h ∙ ap is_ok e)))

-- what a probe says of a place on the store
module _ {F : Type 0} (m : Meaning F) (i j : ℕ) (here : on m i j ≡ true) where
  pub probed_here : probed m i j ≡ judged (m.symbol i j) (m.meter i j) m.life i j
  probed_here = cond-true (on m i j) (judged (m.symbol i j) (m.meter i j) m.life i j) (Err (fault i j OffStore)) here

  -- a probe declines it as blank or as worn
  pub declined_here : (f : StoreFault) → probed m i j ≡ Err f → (cause : Cause) × (f ≡ fault i j cause) × ((cause ≡ Blank) ⊎ (cause ≡ Worn))
  declined_here f e = go (m.symbol i j) (sym probed_here ∙ e)
    where
      go : (x : Option F) → judged x (m.meter i j) m.life i j ≡ Err f → (cause : Cause) × (f ≡ fault i j cause) × ((cause ≡ Blank) ⊎ (cause ≡ Worn))
      go None h = (Blank, cc, inl refl)
      go (Some s) h = worn (eqb (m.meter i j) m.life) h
        where
          worn : (t : Bool) → cond t (Err (fault i j Worn)) (Ok s) ≡ Err f → (cause : Cause) × (f ≡ fault i j cause) × ((cause ≡ Blank) ⊎ (cause ≡ Worn))
          worn true q = (Worn, cc, inr refl)
          worn false q = cc

-- a search for a blank place, row by row
any_up : {F : Type 0} (m : Meaning F) (node n k : ℕ) → n ≤ k → any_blank m node n ≡ true → any_blank m node k ≡ true
unfolding any_blank
any_up m node n zero l e = let q : n ≡ 0 = omega arith in rw q at e
any_up m node n (suc k) l e = elim (cases_eq n (suc k)) [ inl q ↦ rw q at e | inr ne ↦ or_right (is_blank (m.symbol k node)) (any_blank m node k) (any_up m node n k (omega arith) e) ]

pub blank_found : {F : Type 0} (m : Meaning F) (node row rows : ℕ) → is_blank (m.symbol row node) ≡ true → row < rows → any_blank m node rows ≡ true
unfolding any_blank
blank_found m node row rows w l = any_up m node (suc row) rows l (or_left (is_blank (m.symbol row node)) (any_blank m node row) w)

pub area_few : (a b : ℕ) → a ≤ 32 → b ≤ 93 → a * b ≤ 2976
area_few a b la lb = mul-le-mul {n₁ = a} {m₁ = b} {n₂ = 32} {m₂ = 93} la lb
