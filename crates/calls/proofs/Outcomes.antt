-- How a call can end: accepted, with what it answers and leaves, or declined for a reason, with nothing changed. Assumes nothing.
use Rattle.std.proofs.Common.{◌≡◌, ℕ, ◌≤◌, Bool, true, false, cond, ◌⊎◌, List, Some, None, Ok, Err, Option, Result, sym, refl, ap, ◌∙◌, subst, inl, inr}
use Rattle.store.specs.Meaning.{Meaning}
use Rattle.sheet.specs.declared.place.Entry.{Entry}
use Rattle.code.specs.Codes.{CodeMeaning}
use Rattle.calls.specs.declared.call.CallName.{CallName}
use Rattle.calls.specs.declared.call.Reason.{Reason}
use Rattle.calls.specs.declared.call.Reason.TheVariants.{SmallField, SmallStore, OutOfRange, WrongLength, ShortMemory, NotLost, Sheet}
use Rattle.calls.specs.declared.call.SheetFault.{SheetFault}
use Rattle.calls.specs.declared.call.CallFault.{CallFault}
use Rattle.calls.specs.declared.call.Answer.{Answer}
use Rattle.calls.specs.Calls.{answered, unless, Plain, Sheeted, fits, suited}
use Rattle.calls.specs.History.{mapped}
use Rattle.calls.specs.Theorem.{Suited}
use Rattle.calls.proofs.Keeping.{Clear}
use Rattle.calls.proofs.Declines.{suited_rest}

-- a reason for a decline is a check's, or the sheet's
abbrev pub ReasonOf : Option Reason → Reason → Type 0
ReasonOf d e = (d ≡ Some e) ⊎ ((t : SheetFault) × (e ≡ Sheet t))

pub record Accepted {F : Type 0} (d : Option Reason) (es : List Entry) (a : Answer F) (m m₂ : Meaning F) (r : Result (Answer F) CallFault) (m' : Meaning F) : Type 0 where
  pub passed : d ≡ None
  pub clear : Clear m es
  pub answer : r ≡ Ok a
  pub leaves : m' ≡ m₂

pub record Refused {F : Type 0} (d : Option Reason) (m : Meaning F) (r : Result (Answer F) CallFault) (m' : Meaning F) : Type 0 where
  pub fault : CallFault
  pub for : ReasonOf d fault.reason
  pub answer : r ≡ Err fault
  pub leaves : m' ≡ m

abbrev pub Outcome : {F : Type 0} → Option Reason → List Entry → Answer F → Meaning F → Meaning F → Result (Answer F) CallFault → Meaning F → Type 0
Outcome d es a m m₂ r m' = Accepted d es a m m₂ r m' ⊎ Refused d m r m'

pub plain_outcome : {A F : Type 0} (call : CallName) (d : Option Reason) (a : A) (f : A → Answer F) (m m₂ : Meaning F) (q : Result A CallFault) (r : Result (Answer F) CallFault) (m' : Meaning F)
    → r ≡ mapped f q → Plain call d a m m₂ q m' → (es : List Entry) → ((i j : ℕ) → Clear m es) → Outcome d es (f a) m m₂ r m'
unfolding mapped answered unless
plain_outcome call None a f m m₂ q r m' e p es c = inl (record { passed = refl; clear = c 0 0; answer = e ∙ ap (mapped f) p.answer; leaves = p.leaves })
plain_outcome call (Some x) a f m m₂ q r m' e p es c = inr (record { fault = record { call = call; reason = x }; for = inl refl; answer = e ∙ ap (mapped f) p.answer; leaves = p.leaves })

pub sheet_outcome : {A F : Type 0} (call : CallName) (d : Option Reason) (es : List Entry) (a : A) (f : A → Answer F) (m m₂ : Meaning F) (q : Result A CallFault) (r : Result (Answer F) CallFault) (m' : Meaning F)
    → r ≡ mapped f q → Sheeted call d m es a m₂ q m' → Outcome d es (f a) m m₂ r m'
unfolding mapped Sheeted
sheet_outcome call None es a f m m₂ q r m' e (inl t) = inl (record { passed = refl; clear = t.clear; answer = e ∙ ap (mapped f) t.answer; leaves = t.leaves })
sheet_outcome call None es a f m m₂ q r m' e (inr t) = inr (record { fault = _; for = inr (_, refl); answer = e ∙ ap (mapped f) t.answer; leaves = t.leaves })
sheet_outcome call (Some x) es a f m m₂ q r m' e t = inr (record { fault = record { call = call; reason = x }; for = inl refl; answer = e ∙ ap (mapped f) t.answer; leaves = t.leaves })

-- a check's reason is neither the field nor the store
abbrev pub Other : Reason → Type 0
Other e = (e ≡ SmallField → ⊥) × (e ≡ SmallStore → ⊥)

abbrev pub Others : Option Reason → Type 0
Others d = (e : Reason) → d ≡ Some e → Other e

pub others_none : Others None
others_none e q = cc

pub others_cond : (b : Bool) (d : Option Reason) (x : Reason) → Others d → Other x → Others (cond b d (Some x))
others_cond true d x o n e q = o e q
others_cond false d x o n e q = let w : x ≡ e = cc in ((λ u. n.0 (w ∙ u)), (λ u. n.1 (w ∙ u)))

pub other_range : Other OutOfRange
other_range = ((λ q. cc), (λ q. cc))

pub other_length : Other WrongLength
other_length = ((λ q. cc), (λ q. cc))

pub other_memory : Other ShortMemory
other_memory = ((λ q. cc), (λ q. cc))

pub other_lost : Other NotLost
other_lost = ((λ q. cc), (λ q. cc))

other_sheet : (e : Reason) (t : SheetFault) → e ≡ Sheet t → Other e
other_sheet e t w = ((λ q. cc), (λ q. cc))

-- where field and store are large enough, only the rest declines
pub others_suited : {F : Type 0} (size : ℕ) (code : CodeMeaning F) (m : Meaning F) (rest : Option Reason) → code.field_size ≤ size → fits code m ≡ true → Others rest → Others (suited size code m rest)
others_suited size code m rest l f o = subst Others (sym (suited_rest size code m rest l f)) o

pub suited_outcome : {F : Type 0} (d : Option Reason) (es : List Entry) (a : Answer F) (m m₂ : Meaning F) (r : Result (Answer F) CallFault) (m' : Meaning F) → Others d → Outcome d es a m m₂ r m' → Suited r
suited_outcome {F} d es a m m₂ r m' o (inl t) =
    let e = t.answer in
    record {
      field = λ f q _. cc;
      store = λ f q _. cc;
    }
suited_outcome {F} d es a m m₂ r m' o (inr t) =
    record { field = λ f q w. (other t.for).0 (reasons f q ∙ w); store = λ f q w. (other t.for).1 (reasons f q ∙ w) }
  where
    reasons : (f : CallFault) → r ≡ Err f → t.fault.reason ≡ f.reason
    reasons f q = let e = t.answer in let w : t.fault ≡ f = cc in ap (λ c. c.reason) w

    other : ReasonOf d t.fault.reason → Other t.fault.reason
    other (inl q) = o t.fault.reason q
    other (inr q) = other_sheet t.fault.reason q.0 q.1
