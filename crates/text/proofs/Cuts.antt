-- Where the first separator parts bytes. Assumes nothing.
use Rattle.std.proofs.Common.{◌≡◌, ℕ, suc, ◌+◌, ◌-◌, ◌<◌, ◌≤◌, eqb, List, [], ◌∷◌, ◌++◌, length, take, drop, Some, None, sym, refl, ap, ◌∙◌, position, arith}
use Rattle.std.specs.List.{position_or_len, sum_by}
use Rattle.std.proofs.lemmas.List.{take_rest, take-append-drop, drop_more, get_or-take, length-take-le}
use Rattle.std.proofs.lemmas.List.Quantifiers.{position-Some}
use Rattle.std.proofs.lemmas.List.Sums.{fails_before_first, sum_by-cons}
use Rattle.std.proofs.lemmas.Grind.{common_steps}
use Rattle.std.proofs.lemmas.Bool.{cond_both, eqb-true, eqb-false}
use Rattle.text.specs.Parts.{Free, onto, parts}

onto_some : (b : ℕ) (ps : List (List ℕ)) → 0 < length (onto b ps)
onto_some b [] = omega arith
onto_some b (p ∷ ps) = omega arith

pub parts_some : (c : ℕ) (bs : List ℕ) → 0 < length (parts c bs)
parts_some c [] = omega arith
parts_some c (b ∷ bs) = cond_both (eqb b c) _ _ (λ ps. 0 < length ps) (λ _. omega arith) (λ _. onto_some b (parts c bs))

-- the bytes around the first c
pub around : (c : ℕ) (bs : List ℕ) (n : ℕ) → position (λ b. eqb b c) bs ≡ Some n → (bs ≡ take n bs ++ c ∷ take (length bs - (n + 1)) (drop (n + 1) bs)) × Free c (take n bs)
around c bs n e =
    let at = position-Some (λ b. eqb b c) bs n 0 e in
    let is = eqb-true _ c at.1 in
    rw take_rest (
      sym (take-append-drop n bs) ∙ ap (λ l. take n bs ++ l) (drop_more bs n 0 at.0 ∙ (λ i. is i ∷ drop (n + 1) bs)),
      λ k l f. let m = length-take-le n bs (omega (arith, at.0)) in eqb-false _ c (at.2 k (omega arith)) (sym (get_or-take n bs k 0 (omega arith)) ∙ f),
    )

pub none_first : (c : ℕ) (bs : List ℕ) → position (λ b. eqb b c) bs ≡ None → Free c bs
none_first c bs e =
    let out : length bs ≤ position_or_len (λ b. eqb b c) bs = grind (arith, common_steps) in
    λ k l. eqb-false _ c (fails_before_first (λ b. eqb b c) bs k 0 (omega arith))

-- each part and the byte that ends it
onto_long : (b : ℕ) (ps : List (List ℕ)) → 0 < length ps → sum_by (λ w. length w + 1) (onto b ps) ≡ sum_by (λ w. length w + 1) ps + 1
onto_long b [] h = absurd (omega arith)
onto_long b (p ∷ ps) h = omega (arith, sum_by-cons (λ (w : List ℕ). length w + 1) (b ∷ p) ps, sum_by-cons (λ (w : List ℕ). length w + 1) p ps)

pub parts_long : (c : ℕ) (bs : List ℕ) → sum_by (λ w. length w + 1) (parts c bs) ≡ length bs + 1
parts_long c [] = refl
parts_long c (b ∷ bs) =
    let rest = parts_long c bs in
    cond_both (eqb b c) ([] ∷ parts c bs) (onto b (parts c bs)) (λ ps. sum_by (λ w. length w + 1) ps ≡ suc (length bs) + 1)
    (λ _. omega (arith, rest, sum_by-cons (λ (w : List ℕ). length w + 1) [] (parts c bs)))
    (λ _. omega (arith, rest, onto_long b (parts c bs) (parts_some c bs)))
