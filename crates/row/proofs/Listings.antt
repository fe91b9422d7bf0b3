-- Tests of a list of numbers, in the library's words. Assumes nothing.
use Rattle.std.proofs.Common.{◌≡◌, ℕ, ◌||◌, eqb, leb, List, [], ◌∷◌, refl, ap, ap₂, arith}
use Rattle.std.proofs.lemmas.Bool.Decides.{nat_tests}
use Rattle.std.specs.List.{list_any}
use Rattle.row.specs.Answers.{listed, beyond}

same_test : (m n : ℕ) → eqb m n ≡ eqb n m
same_test m n = grind (arith, nat_tests)

pub listed_any : (n : ℕ) (ns : List ℕ) → listed n ns ≡ list_any (λ m. eqb m n) ns
listed_any n [] = refl
listed_any n (m ∷ ms) = ap₂ ◌||◌ (same_test n m) (listed_any n ms)

pub beyond_any : (size : ℕ) (ns : List ℕ) → beyond size ns ≡ list_any (λ n. leb size n) ns
beyond_any size [] = refl
beyond_any size (n ∷ ns) = ap (λ b. leb size n || b) (beyond_any size ns)
