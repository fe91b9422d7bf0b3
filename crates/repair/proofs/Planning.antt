-- What the plans of the two-class code promise an engine. Assumes nothing.
use Rattle.std.proofs.Common.{◌≡◌, ℕ, ◌*◌, ◌<◌, true, sym, refl, ◌∙◌, subst, inl, arith}
use Rattle.sheet.specs.Places.{at, listed, places_of, sheet_of}
use Rattle.sheet.proofs.Lists.{listed_distinct}
use Rattle.code.specs.Codes.{Slotted}
use Rattle.array.specs.declared.parameters.Parameters.{Parameters}
use Rattle.array.specs.Layout.{nodes, wrap}
use Rattle.array.specs.Sheet.{mend_entries, node_sheet, slot}
use Rattle.array.proofs.Slots.{slots}
use Rattle.array.proofs.Wraps.{wrapped_is}

-- each place of a mend's listing has a record of its own
pub mend_slotted : (p : Parameters) (m : ℕ) → m < nodes p → Slotted (mend_entries p m) (slot p m) (p.k * p.k)
unfolding node_sheet sheet_of
mend_slotted p m l =
    let s = slots p m l in
    let on : (i j : ℕ) → listed (places_of (mend_entries p m)) (at i j) ≡ true → listed (node_sheet p m) (at i j) ≡ true = λ i j e. listed_distinct (places_of (mend_entries p m)) (at i j) ∙ e in
    record { within = λ i j e. s.0 i j (on i j e); apart = λ i j r c e f. s.1 i j r c (on i j e) (on r c f) }

-- a fact of the parameters and a node, told of equal ones
pub told : (P : Parameters → ℕ → Type 0) (q p : Parameters) (n m : ℕ) → q ≡ p → n ≡ m → P p m → P q n
told P q p n m e f h = subst (λ x. P x n) (sym e) (subst (λ y. P p y) (sym f) h)

pub told_place : (P : Parameters → ℕ → ℕ → Type 0) (q p : Parameters) (n m c d : ℕ) → q ≡ p → n ≡ m → c ≡ d → P p m d → P q n c
told_place P q p n m c d e f g h = subst (λ x. P x n c) (sym e) (subst (λ y. P p y c) (sym f) (subst (λ z. P p m z) (sym g) h))

-- a row or a data node does not wrap
pub wrap_low : (p : Parameters) (x : ℕ) → x < p.k → wrap p x ≡ x
wrap_low p x l = wrapped_is p x x (omega arith) l (inl refl)
