-- Lines answered one after another, joined. Assumes nothing.
use Rattle.std.proofs.Common.{ℕ, List, [], ◌∷◌, ◌++◌, map, sym, refl, ap, ◌∙◌, subst, append_assoc, append-nil}
use Rattle.session.specs.Runs.{Runs}

module _ {S : Type 0} (answers : S → List ℕ → S → List ℕ → Type 0) where
  pub runs_none : (s : S) → Runs answers [] s s []
  runs_none s = (refl, refl)

  pub runs_one : (line : List ℕ) (s t : S) (bytes : List ℕ) → answers s line t bytes → Runs answers (line ∷ []) s t bytes
  runs_one line s t bytes r = (t, bytes, [], r, (refl, refl), sym (append-nil bytes))

  pub runs_append : (ls ms : List (List ℕ)) (s t u : S) (x y : List ℕ) → Runs answers ls s t x → Runs answers ms t u y → Runs answers (ls ++ ms) s u (x ++ y)
  runs_append [] ms s t u x y p q = subst (λ b. Runs answers ms s u (b ++ y)) (sym p.1) (subst (λ v. Runs answers ms v u y) (sym p.0) q)
  runs_append (l ∷ ls) ms s t u x y p q =
      (p.0, p.1, p.2 ++ y, p.3, runs_append ls ms p.0 t u p.2 y p.4 q, ap (λ b. b ++ y) p.5 ∙ append_assoc p.1 p.2 y)

  -- lines of which f decides the answer may stand for the whole lines
  pub runs_by : (f : List ℕ → List ℕ) → ((s t : S) (line bytes : List ℕ) → answers s (f line) t bytes → answers s line t bytes) → (ls : List (List ℕ)) (s t : S) (x : List ℕ) → Runs answers (map f ls) s t x → Runs answers ls s t x
  runs_by f same [] s t x p = p
  runs_by f same (l ∷ ls) s t x p = (p.0, p.1, p.2, same s p.0 l p.1 p.3, runs_by f same ls p.0 t p.2 p.4, p.5)
