-- The laws of parts, lines and words. Assumes nothing.
use Rattle.std.proofs.Common.{◌≡◌, ℕ, zero, suc, ◌+◌, ◌<◌, Bool, true, false, not, eqb, ◌⊎◌, List, [], ◌∷◌, ◌++◌, length, take, Some, None, Option, sym, refl, ap, ◌∙◌, subst, inl, inr, ⊎_elim, append_assoc, append-nil, arith}
use Rattle.std.specs.Borrow.{Bor}
use Rattle.std.specs.Option.{is_some}
use Rattle.std.specs.List.{flat_map, AllByRecursion}
use Rattle.std.proofs.ByRecursion.{All-push}
use Rattle.std.proofs.lemmas.List.{append_cancel_right, length-append, length-map}
use Rattle.std.proofs.lemmas.Bool.{cond_both, cond-true, cond-false, eqb-true, eqb-false, eq-eqb, ne_eqb}
use Rattle.text.specs.Lines.{ended}
use Rattle.text.specs.Parts.{Free, onto, parts, joined_by, final}
use Rattle.text.specs.Walk.{to_come}
use Rattle.text.specs.Words.{placed, words, texts, column_of}
use Rattle.text.specs.Cutting.{closed, LineCut, Worded, WordCut}
use Rattle.text.proofs.Cuts.{parts_some}

joined_cons : (c : ℕ) (p : List ℕ) (ps : List (List ℕ)) → 0 < length ps → joined_by c (p ∷ ps) ≡ p ++ c ∷ joined_by c ps
joined_cons c p [] h = absurd (omega arith)
joined_cons c p (q ∷ ps) h = refl

joined_onto : (c b : ℕ) (ps : List (List ℕ)) → joined_by c (onto b ps) ≡ b ∷ joined_by c ps
joined_onto c b [] = refl
joined_onto c b (p ∷ []) = refl
joined_onto c b (p ∷ q ∷ ps) = refl

pub whole : (c : ℕ) (bs : List ℕ) → joined_by c (parts c bs) ≡ bs
whole c [] = refl
whole c (b ∷ bs) =
    cond_both (eqb b c) ([] ∷ parts c bs) (onto b (parts c bs)) (λ ps. joined_by c ps ≡ b ∷ bs)
    (λ t. joined_cons c [] (parts c bs) (parts_some c bs) ∙ (λ i. sym (eqb-true b c t) i ∷ whole c bs i))
    (λ _. joined_onto c b (parts c bs) ∙ ap (λ l. b ∷ l) (whole c bs))

free_cons : (c b : ℕ) (p : List ℕ) → (b ≡ c → ⊥) → Free c p → Free c (b ∷ p)
free_cons c b p other h zero l e = other e
free_cons c b p other h (suc k) l e = h k (omega arith) e

pub free_none : (c : ℕ) → Free c []
free_none c k l e = absurd (omega arith)

free_onto : (c b : ℕ) (ps : List (List ℕ)) → (b ≡ c → ⊥) → AllByRecursion (Free c) ps → AllByRecursion (Free c) (onto b ps)
free_onto c b [] other h = (free_cons c b [] other (free_none c), tt)
free_onto c b (p ∷ ps) other h = (free_cons c b p other h.0, h.1)

pub free : (c : ℕ) (bs : List ℕ) → AllByRecursion (Free c) (parts c bs)
free c [] = (free_none c, tt)
free c (b ∷ bs) =
    cond_both (eqb b c) ([] ∷ parts c bs) (onto b (parts c bs)) (λ ps. AllByRecursion (Free c) ps)
    (λ _. (free_none c, free c bs))
    (λ t. free_onto c b (parts c bs) (eqb-false b c t) (free c bs))

-- a part, and what follows its separator
pub parts_after : (c : ℕ) (p rest : List ℕ) → Free c p → parts c (p ++ c ∷ rest) ≡ p ∷ parts c rest
parts_after c [] rest h = cond-true (eqb c c) _ _ (eq-eqb c c refl)
parts_after c (b ∷ p) rest h =
    cond-false (eqb b c) _ _ (ne_eqb b c (h 0 (omega arith)))
    ∙ ap (onto b) (parts_after c p rest (λ k l. h (suc k) (omega arith)))

pub parts_one : (c : ℕ) (p : List ℕ) → Free c p → parts c p ≡ p ∷ []
parts_one c [] h = refl
parts_one c (b ∷ p) h = cond-false (eqb b c) _ _ (ne_eqb b c (h 0 (omega arith))) ∙ ap (onto b) (parts_one c p (λ k l. h (suc k) (omega arith)))

-- the first part of bytes that are cut at their first separator
pub cut_part : (c : ℕ) (bs p rest : List ℕ) → (bs ≡ p ++ c ∷ rest) × Free c p → parts c bs ≡ p ∷ parts c rest
cut_part c bs p rest h = ap (parts c) h.0 ∙ parts_after c p rest h.1

-- no other parts, joined, are the bytes
pub only : (c : ℕ) (ps : List (List ℕ)) → 0 < length ps → AllByRecursion (Free c) ps → parts c (joined_by c ps) ≡ ps
only c [] some h = absurd (omega arith)
only c (p ∷ []) some h = parts_one c p h.0
only c (p ∷ q ∷ ps) some h = parts_after c p (joined_by c (q ∷ ps)) h.0 ∙ ap (λ l. p ∷ l) (only c (q ∷ ps) (omega arith) h.1)

-- the lines of an input
all_ended : (P : List ℕ → Type 0) (ps : List (List ℕ)) → AllByRecursion P ps → AllByRecursion P (ended ps)
all_ended P [] h = h
all_ended P ([] ∷ []) h = tt
all_ended P ((b ∷ p) ∷ []) h = h
all_ended P (p ∷ q ∷ ps) h = (h.0, all_ended P (q ∷ ps) h.1)

final_more : (p : List ℕ) (ps : List (List ℕ)) → 0 < length (final ps) → 0 < length (final (p ∷ ps))
final_more p [] h = absurd (omega arith)
final_more p (q ∷ ps) h = h

closing : (ps : List (List ℕ)) → (closed (ended ps) ≡ joined_by 10 ps) ⊎ ((closed (ended ps) ≡ joined_by 10 ps ++ 10 ∷ []) × (0 < length (final (ended ps))))
closing [] = inl refl
closing ([] ∷ []) = inl refl
closing ((b ∷ p) ∷ []) = inr (append-nil _, omega arith)
closing (p ∷ q ∷ ps) =
    ⊎_elim
    (λ e. inl (append_assoc p (10 ∷ []) _ ∙ ap (λ l. p ++ 10 ∷ l) e))
    (λ e. inr (append_assoc p (10 ∷ []) _ ∙ ap (λ l. p ++ 10 ∷ l) e.0 ∙ sym (append_assoc p (10 ∷ joined_by 10 (q ∷ ps)) (10 ∷ [])), final_more p (ended (q ∷ ps)) e.1))
    (closing (q ∷ ps))

some_push : (ls : List (List ℕ)) (l : List ℕ) → 0 < length (ls ++ l ∷ [])
some_push ls l = omega (arith, length-append ls (l ∷ []))

-- closed lines are parts, of which the last is empty
closed_parts : (ls : List (List ℕ)) → closed ls ≡ joined_by 10 (ls ++ [] ∷ [])
closed_parts [] = refl
closed_parts (l ∷ ls) = append_assoc l (10 ∷ []) (closed ls) ∙ ap (λ r. l ++ 10 ∷ r) (closed_parts ls) ∙ sym (joined_cons 10 l (ls ++ [] ∷ []) (some_push ls []))

ended_push : (ls : List (List ℕ)) → ended (ls ++ [] ∷ []) ≡ ls
ended_push [] = refl
ended_push (l ∷ []) = refl
ended_push (l ∷ m ∷ ls) = ap (λ r. l ∷ r) (ended_push (m ∷ ls))

closed_last : (ls : List (List ℕ)) → 0 < length ls → closed ls ≡ joined_by 10 ls ++ 10 ∷ []
closed_last [] h = absurd (omega arith)
closed_last (l ∷ []) h = append-nil (l ++ 10 ∷ [])
closed_last (l ∷ m ∷ ls) h =
    append_assoc l (10 ∷ []) (closed (m ∷ ls)) ∙ ap (λ r. l ++ 10 ∷ r) (closed_last (m ∷ ls) (omega arith))
    ∙ sym (append_assoc l (10 ∷ joined_by 10 (m ∷ ls)) (10 ∷ []))

ended_whole : (ls : List (List ℕ)) → 0 < length (final ls) → ended ls ≡ ls
ended_whole [] h = refl
ended_whole ([] ∷ []) h = absurd (omega arith)
ended_whole ((b ∷ l) ∷ []) h = refl
ended_whole (l ∷ m ∷ ls) h = ap (λ r. l ∷ r) (ended_whole (m ∷ ls) h)

some_final : (ls : List (List ℕ)) → 0 < length (final ls) → 0 < length ls
some_final [] h = h
some_final (l ∷ ls) h = omega arith

pub line_cut : (input : List ℕ) → LineCut input
line_cut input = record {
  cuts = (all_ended (Free 10) (parts 10 input) (free 10 input), ⊎_elim (λ e. inl (e ∙ whole 10 input)) (λ e. inr (e.0 ∙ ap (λ l. l ++ 10 ∷ []) (whole 10 input), e.1)) (closing (parts 10 input)));
  only = λ ls h.
      ⊎_elim
      (λ e. ap (λ l. ended (parts 10 l)) (sym e ∙ closed_parts ls) ∙ ap ended (only 10 (ls ++ [] ∷ []) (some_push ls []) (All-push (Free 10) ls [] h.0 (free_none 10))) ∙ ended_push ls)
      (λ e.
      let some = some_final ls e.1 in
      let same : joined_by 10 ls ≡ input = append_cancel_right (joined_by 10 ls) input (10 ∷ []) (sym (closed_last ls some) ∙ e.0) in
      ap (λ l. ended (parts 10 l)) (sym same) ∙ ap ended (only 10 ls some h.0) ∙ ended_whole ls e.1)
      h.1;
}

-- the line that a part is: a last part with nothing in it is none
pub first_line : (p : List ℕ) (ps : List (List ℕ)) → (0 < length p) ⊎ (0 < length ps) → ended (p ∷ ps) ≡ p ∷ ended ps
first_line [] [] h = absurd (⊎_elim (λ l. omega arith) (λ l. omega arith) h)
first_line (b ∷ p) [] h = refl
first_line p (q ∷ ps) h = refl

-- what is left is a part or more
pub some_left : (c : ℕ) (o : Option (Bor (List ℕ))) → is_some o ≡ true → 0 < length (to_come c o)
some_left c None h = cc
some_left c (Some rest) h = parts_some c rest.now

-- the words of a line
texts_placed : (column : ℕ) (ws : List (List ℕ)) → texts (placed column ws) ≡ ws
texts_placed column [] = refl
texts_placed column (w ∷ ws) = ap (λ l. w ∷ l) (texts_placed (column + length w + 1) ws)

column_placed : (column k : ℕ) (ws : List (List ℕ)) → k < length ws → column_of k (placed column ws) ≡ column + length (flat_map (λ w. w ++ 9 ∷ []) (take k ws))
column_placed column k [] h = absurd (omega arith)
column_placed column zero (w ∷ ws) h = omega arith
column_placed column (suc k) (w ∷ ws) h =
    let rest = flat_map (λ w. w ++ 9 ∷ []) (take k ws) in
    column_placed (column + length w + 1) k ws (omega arith)
    ∙ (omega (arith, length-append (w ++ 9 ∷ []) rest, length-append w (9 ∷ [])))

pub word_cut : (line : List ℕ) → WordCut line
word_cut line =
    let same = texts_placed 1 (parts 9 line) in
    record {
      cuts = subst (Worded line) (sym same) (parts_some 9 line, free 9 line, whole 9 line);
      only = λ ws h. same ∙ ap (parts 9) (sym h.2) ∙ only 9 ws h.0 h.1;
      columns = λ k h.
          column_placed 1 k (parts 9 line) (omega (arith, ap length same, length-map (words line) (λ w. w.bytes)))
          ∙ ap (λ ws. 1 + length (flat_map (λ w. w ++ 9 ∷ []) (take k ws))) (sym same);
    }

pub placed_some : (column : ℕ) (ws : List (List ℕ)) → 0 < length ws → 0 < length (placed column ws)
placed_some column [] h = h
placed_some column (w ∷ ws) h = omega arith

-- whether a word is left
pub none_left : (column : ℕ) (o : Option (Bor (List ℕ))) (none : Bool) → is_some o ≡ not none → none ≡ eqb (length (placed column (to_come 9 o))) 0
none_left column None true h = refl
none_left column None false h = cc
none_left column (Some rest) true h = cc
none_left column (Some rest) false h = sym (ne_eqb _ 0 (λ z. omega (arith, placed_some column (parts 9 rest.now) (parts_some 9 rest.now))))
