-- Lines that end in a chunk, one after another. Assumes nothing.
use Rattle.std.proofs.Common.{◌≡◌, ℕ, zero, suc, ◌<◌, ◌≤◌, min, List, [], ◌∷◌, ◌++◌, map, length, take, IfOk, Ok, Err, Result, sym, refl, ap, ◌∙◌, subst, ⊎_elim, append_assoc, append-nil, arith, MatchResult}
use Rattle.std.proofs.lemmas.List.{take-take, take_all, map_push}
use Rattle.std.proofs.lemmas.Bool.{cases_lt}
use Rattle.text.specs.Lines.{ended}
use Rattle.text.specs.Parts.{Free, parts, front, final}
use Rattle.text.proofs.Laws.{parts_after, parts_one}
use Rattle.session.specs.Runs.{Runs, Adds}
use Rattle.session.specs.Feeding.{kept, Fed, Finished}
use Rattle.session.proofs.Runs.{runs_none, runs_one, runs_append}
use Rattle.session.proofs.Pieces.{front_at, final_at, free_append}
use Rattle.session.proofs.Streams.{finished}

take_cap : (k m : ℕ) (a b : List ℕ) → k ≤ m → take k (a ++ take m b) ≡ take k (a ++ b)
take_cap k m [] b h = take-take k m b h
take_cap zero m (x ∷ a) b h = refl
take_cap (suc k) m (x ∷ a) b h = ap (λ l. x ∷ l) (take_cap k m a b (omega arith))

-- what `hold` does
pub holds : (held more mid after : List ℕ) (n : ℕ) → n ≡ min (length more) 5001 → mid ≡ held ++ take n more → after ≡ take 5001 mid → after ≡ kept (held ++ more)
holds held more mid after n is m a =
    let same : take n more ≡ take 5001 more =
    ⊎_elim (λ lt. take_all n more (omega arith) ∙ sym (take_all 5001 more (omega arith))) (λ ge. let k : n ≡ 5001 = omega arith in ap (λ j. take j more) k) (cases_lt (length more) 5001) in
    a ∙ ap (take 5001) (m ∙ ap (λ l. held ++ l) same) ∙ take_cap 5001 5001 held more (omega arith)

-- some lines are answered, and the held bytes and the rest of the chunk are to come
pub record Going {S : Type 0} (answers : S → List ℕ → S → List ℕ → Type 0) (held₀ chunk : List ℕ) (first : S) (held rest : List ℕ) (s : S) (bytes : List ℕ) : Type 0 where
  pub done : List (List ℕ)
  pub split : parts 10 (held₀ ++ chunk) ≡ done ++ parts 10 (held ++ rest)
  pub runs : Runs answers (map kept done) first s bytes

module _ {S : Type 0} (answers : S → List ℕ → S → List ℕ → Type 0) (held₀ chunk : List ℕ) (first : S) where
  pub turn : (held rest out₀ out out' front next line held' : List ℕ) (s t : S) → Adds out₀ out (Going answers held₀ chunk first held rest s) → Free 10 held → rest ≡ front ++ 10 ∷ next → Free 10 front → line ≡ kept (held ++ front) → Adds out out' (answers s line t) → held' ≡ [] → Adds out₀ out' (Going answers held₀ chunk first held' next t)
  turn held rest out₀ out out' front next line held' s t going clean e free is said empty =
      let g = going.1 in
      let whole = held ++ front in
      let step : parts 10 (held ++ rest) ≡ whole ∷ parts 10 next =
      ap (λ l. parts 10 (held ++ l)) e ∙ ap (parts 10) (sym (append_assoc held front (10 ∷ next))) ∙ parts_after 10 whole next (free_append 10 held front clean free) in (
        going.0 ++ said.0,
        record {
          done = g.done ++ whole ∷ [];
          split = g.split ∙ ap (λ l. g.done ++ l) step ∙ sym (append_assoc g.done (whole ∷ []) (parts 10 next)) ∙ ap (λ h. (g.done ++ whole ∷ []) ++ parts 10 (h ++ next)) (sym empty);
          runs = subst (λ l. Runs answers l first t (going.0 ++ said.0)) (sym (map_push kept g.done whole))
              (runs_append answers (map kept g.done) (kept whole ∷ []) first s t going.0 said.0 g.runs (runs_one answers (kept whole) s t said.0 (subst (λ l. answers s l t said.0) is said.1)));
        },
        said.2 ∙ ap (λ l. l ++ said.0) going.2 ∙ append_assoc out₀ going.0 said.0,
      )

  stop : (held rest out₀ out held' : List ℕ) (s : S) → Adds out₀ out (Going answers held₀ chunk first held rest s) → Free 10 held → Free 10 rest → held' ≡ kept (held ++ rest) → Adds out₀ out (Fed answers held₀ chunk first held' s)
  stop held rest out₀ out held' s going clean free is =
      let g = going.1 in
      let all : parts 10 (held₀ ++ chunk) ≡ g.done ++ (held ++ rest) ∷ [] = g.split ∙ ap (λ l. g.done ++ l) (parts_one 10 (held ++ rest) (free_append 10 held rest clean free)) in (
        going.0,
        record {
          runs = subst (λ l. Runs answers (map kept l) first s going.0) (sym (ap front all ∙ front_at g.done (held ++ rest))) g.runs;
          holds = is ∙ ap kept (sym (ap final all ∙ final_at g.done (held ++ rest)));
        },
        going.2,
      )

  pub stopped : {Y : Type 0} (r : Result (Unit {0}) Y) (held rest out₀ out held' : List ℕ) (s : S) → MatchResult r (λ _. held' ≡ kept (held ++ rest)) (λ _. held' ≡ held) → Adds out₀ out (Going answers held₀ chunk first held rest s) → Free 10 held → Free 10 rest → IfOk r (λ _. Adds out₀ out (Fed answers held₀ chunk first held' s))
  stopped (Ok x) held rest out₀ out held' s is going clean free = stop held rest out₀ out held' s going clean free is
  stopped (Err y) held rest out₀ out held' s is going clean free = tt

-- no line is left at the end, or one
pub last_none : {S : Type 0} (answers : S → List ℕ → S → List ℕ → Type 0) (held out : List ℕ) (s : S) → held ≡ [] → Adds out out (Finished answers held s s)
last_none answers held out s empty =
    ([], finished answers held s s [] (subst (λ h. Runs answers (ended (h ∷ [])) s s []) (sym empty) (runs_none answers s)), sym (append-nil out))

ended_some : (held : List ℕ) → 0 < length held → ended (held ∷ []) ≡ held ∷ []
ended_some [] h = absurd (omega arith)
ended_some (b ∷ held) h = refl

pub last_one : {S : Type 0} (answers : S → List ℕ → S → List ℕ → Type 0) (held line out out' : List ℕ) (s t : S) → 0 < length held → line ≡ held → Adds out out' (answers s line t) → Adds out out' (Finished answers held s t)
last_one answers held line out out' s t some is said =
    (said.0, finished answers held s t said.0 (subst (λ l. Runs answers l s t said.0) (sym (ended_some held some)) (runs_one answers held s t said.0 (subst (λ l. answers s l t said.0) is said.1))), said.2)
