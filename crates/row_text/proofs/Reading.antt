-- Reading a line, a byte at a time. Assumes nothing.
use Rattle.std.proofs.Common.{◌≡◌, ℕ, ◌+◌, ◌<◌, true, false, List, length, get_or, drop, Some, ◌∙◌}
use Rattle.std.proofs.lemmas.List.{at_drop_more}
use Rattle.std.proofs.lemmas.Bool.{cond-true, cond-false}
use Rattle.row_text.specs.Input.{sound, fault_at, first_fault}

pub fault_here : (bs : List ℕ) (i : ℕ) → i < length bs → sound i (get_or bs i 0) ≡ false → first_fault i (drop i bs) ≡ Some (fault_at i (get_or bs i 0))
fault_here bs i h e = at_drop_more (first_fault i) bs i 0 h ∙ cond-false (sound i (get_or bs i 0)) _ _ e

pub fault_more : (bs : List ℕ) (i : ℕ) → i < length bs → sound i (get_or bs i 0) ≡ true → first_fault i (drop i bs) ≡ first_fault (i + 1) (drop (i + 1) bs)
fault_more bs i h e = at_drop_more (first_fault i) bs i 0 h ∙ cond-true (sound i (get_or bs i 0)) _ _ e
