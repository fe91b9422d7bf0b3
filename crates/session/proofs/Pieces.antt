-- Parts of which the last is open: bytes that follow go on from it. Assumes nothing.
use Rattle.std.proofs.Common.{◌≡◌, ℕ, zero, suc, ◌<◌, true, false, cond, eqb, List, [], ◌∷◌, ◌++◌, map, length, take, sym, refl, ap, ◌∙◌, arith}
use Rattle.std.specs.List.{AllByRecursion}
use Rattle.std.proofs.lemmas.List.{length-append, length-take, get_or-take}
use Rattle.std.proofs.lemmas.Bool.{cond-false, ne_eqb}
use Rattle.text.specs.Lines.{ended}
use Rattle.text.specs.Parts.{Free, onto, parts, front, final}
use Rattle.text.proofs.Cuts.{parts_some}
use Rattle.text.proofs.Laws.{free}
use Rattle.session.specs.Feeding.{kept}

pub front_at : (d : List (List ℕ)) (t : List ℕ) → front (d ++ t ∷ []) ≡ d
front_at [] t = refl
front_at (p ∷ []) t = refl
front_at (p ∷ q ∷ d) t = ap (λ l. p ∷ l) (front_at (q ∷ d) t)

pub final_at : (d : List (List ℕ)) (t : List ℕ) → final (d ++ t ∷ []) ≡ t
final_at [] t = refl
final_at (p ∷ []) t = refl
final_at (p ∷ q ∷ d) t = final_at (q ∷ d) t

front_cons : (p : List ℕ) (ps : List (List ℕ)) → 0 < length ps → front (p ∷ ps) ≡ p ∷ front ps
front_cons p [] h = absurd (omega arith)
front_cons p (q ∷ ps) h = refl

final_cons : (p : List ℕ) (ps : List (List ℕ)) → 0 < length ps → final (p ∷ ps) ≡ final ps
final_cons p [] h = absurd (omega arith)
final_cons p (q ∷ ps) h = refl

some_append : (d ps : List (List ℕ)) → 0 < length ps → 0 < length (d ++ ps)
some_append d ps h = omega (arith, length-append d ps)

pub front_append : (d ps : List (List ℕ)) → 0 < length ps → front (d ++ ps) ≡ d ++ front ps
front_append [] ps h = refl
front_append (p ∷ d) ps h = front_cons p (d ++ ps) (some_append d ps h) ∙ ap (λ l. p ∷ l) (front_append d ps h)

pub final_append : (d ps : List (List ℕ)) → 0 < length ps → final (d ++ ps) ≡ final ps
final_append [] ps h = refl
final_append (p ∷ d) ps h = final_cons p (d ++ ps) (some_append d ps h) ∙ final_append d ps h

pub ended_is : (ps : List (List ℕ)) → 0 < length ps → ended ps ≡ front ps ++ ended (final ps ∷ [])
ended_is [] h = absurd (omega arith)
ended_is ([] ∷ []) h = refl
ended_is ((b ∷ p) ∷ []) h = refl
ended_is (p ∷ q ∷ ps) h = ap (λ l. p ∷ l) (ended_is (q ∷ ps) (omega arith))

-- a first part made longer at its front
abbrev pub pre : List ℕ → List (List ℕ) → List (List ℕ)
pre t [] = []
pre t (p ∷ ps) = (t ++ p) ∷ ps

onto_pre : (b : ℕ) (t : List ℕ) (ps : List (List ℕ)) → 0 < length ps → onto b (pre t ps) ≡ pre (b ∷ t) ps
onto_pre b t [] h = absurd (omega arith)
onto_pre b t (p ∷ ps) h = refl

pre_none : (ps : List (List ℕ)) → ps ≡ pre [] ps
pre_none [] = refl
pre_none (p ∷ ps) = refl

pub parts_pre : (c : ℕ) (t y : List ℕ) → Free c t → parts c (t ++ y) ≡ pre t (parts c y)
parts_pre c [] y h = pre_none (parts c y)
parts_pre c (b ∷ t) y h =
    cond-false (eqb b c) _ _ (ne_eqb b c (h 0 (omega arith))) ∙ ap (onto b) (parts_pre c t y (λ k l. h (suc k) (omega arith)))
    ∙ onto_pre b t (parts c y) (parts_some c y)

onto_on : (c b : ℕ) (y : List ℕ) (ps : List (List ℕ)) → eqb b c ≡ false → onto b (front ps ++ parts c (final ps ++ y)) ≡ front (onto b ps) ++ parts c (final (onto b ps) ++ y)
onto_on c b y [] e = sym (cond-false (eqb b c) ([] ∷ parts c y) (onto b (parts c y)) e)
onto_on c b y (p ∷ []) e = sym (cond-false (eqb b c) ([] ∷ parts c (p ++ y)) (onto b (parts c (p ++ y))) e)
onto_on c b y (p ∷ q ∷ ps) e = refl

-- parts of bytes, and of those that follow
pub parts_on : (c : ℕ) (x y : List ℕ) → parts c (x ++ y) ≡ front (parts c x) ++ parts c (final (parts c x) ++ y)
parts_on c [] y = refl
parts_on c (b ∷ x) y =
    ap (λ ps. cond (eqb b c) ([] ∷ ps) (onto b ps)) (parts_on c x y)
    ∙ elim (eqb b c) as (λ v. eqb b c ≡ v → cond v ([] ∷ (front (parts c x) ++ parts c (final (parts c x) ++ y))) (onto b (front (parts c x) ++ parts c (final (parts c x) ++ y))) ≡ front (cond v ([] ∷ parts c x) (onto b (parts c x))) ++ parts c (final (cond v ([] ∷ parts c x) (onto b (parts c x))) ++ y)) [
      | true ↦ λ e. let some = parts_some c x in (λ i. sym (front_cons [] (parts c x) some) i ++ parts c (sym (final_cons [] (parts c x) some) i ++ y))
      | false ↦ λ e. onto_on c b y (parts c x) e
    ] refl

-- bytes without the separator
pub free_append : (c : ℕ) (a b : List ℕ) → Free c a → Free c b → Free c (a ++ b)
free_append c [] b ha hb k l e = hb k l e
free_append c (x ∷ a) b ha hb zero l e = ha 0 (omega arith) e
free_append c (x ∷ a) b ha hb (suc k) l e = free_append c a b (λ j m. ha (suc j) (omega arith)) hb k (omega arith) e

pub free_take : (c n : ℕ) (l : List ℕ) → Free c l → Free c (take n l)
free_take c n l h k lt e =
    let long = length-take n l in
    h k (omega arith) (sym (get_or-take n l k 0 (omega arith)) ∙ e)

final_all : (P : List ℕ → Type 0) (ps : List (List ℕ)) → 0 < length ps → AllByRecursion P ps → P (final ps)
final_all P [] h all = absurd (omega arith)
final_all P (p ∷ []) h all = all.0
final_all P (p ∷ q ∷ ps) h all = final_all P (q ∷ ps) (omega arith) all.1

pub free_final : (c : ℕ) (bs : List ℕ) → Free c (final (parts c bs))
free_final c bs = final_all (Free c) (parts c bs) (parts_some c bs) (free c bs)

-- what is kept of a line, whether its start was cut before or not
take_front : (k : ℕ) (t p : List ℕ) → take k (take k t ++ p) ≡ take k (t ++ p)
take_front zero t p = refl
take_front (suc k) [] p = refl
take_front (suc k) (b ∷ t) p = ap (λ l. b ∷ l) (take_front k t p)

pub kept_front : (t : List ℕ) (ps : List (List ℕ)) → map kept (front (pre (kept t) ps)) ≡ map kept (front (pre t ps))
kept_front t [] = refl
kept_front t (p ∷ []) = refl
kept_front t (p ∷ q ∷ ps) = ap (λ l. l ∷ map kept (front (q ∷ ps))) (take_front 5001 t p)

pub kept_final : (t : List ℕ) (ps : List (List ℕ)) → kept (final (pre (kept t) ps)) ≡ kept (final (pre t ps))
kept_final t [] = refl
kept_final t (p ∷ []) = take_front 5001 t p
kept_final t (p ∷ q ∷ ps) = refl

pub kept_ended : (t : List ℕ) → ended (kept t ∷ []) ≡ map kept (ended (t ∷ []))
kept_ended [] = refl
kept_ended (b ∷ t) = refl
