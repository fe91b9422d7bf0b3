-- What each call leaves of a store whose places lie in a row.
use Rattle.std.proofs.Common.{◌≡◌, true, ℕ, ◌+◌, ◌-◌, ◌*◌, cond, ◌&&◌, eqb, ltb, leb, is_ok, Some, None, Ok, Option, sym, ap, ◌∙◌, arith}
use Rattle.std.proofs.lemmas.Bool.{lt-ltb, cond-true}
use Rattle.std.proofs.lemmas.Bool.Decides.{nat_tests}
use Rattle.store.specs.Meaning.{Meaning, probed, read, written, cleared, refreshed, summed, total}
use Rattle.store.specs.Laid.{found, laid, spot}
use Rattle.store.proofs.Same.{answered_on}
use Rattle.store.proofs.Lay.{found_on, laid_read, laid_written, laid_cleared, laid_refreshed, laid_total}

-- a place that answers a symbol was found
pub answered_found : {F : Type 0} (m : Meaning F) (row node : ℕ) (x : F) → Ok x ≡ probed m row node → Ok (spot m.rows row node) ≡ found m.rows m.nodes row node
answered_found m row node x e =
    let o = answered_on m row node x e in
    let b : (ltb row m.rows && ltb node m.nodes) ≡ true = grind (arith, nat_tests) in
    sym (cond-true _ _ _ b)

module _ {F : Type 0} (rows nodes life : ℕ) (f f' : ℕ → Option F) (g g' : ℕ → ℕ) where
  pub leaves_read : (row node : ℕ) (x : F) → Ok x ≡ probed (laid rows nodes life f g) row node → ((k : ℕ) → f' k ≡ f k) → ((k : ℕ) → g' k ≡ cond (eqb k (spot rows row node)) (g k + 1) (g k)) → laid rows nodes life f' g' ≡ read (laid rows nodes life f g) row node
  leaves_read row node x e s t = let o = answered_on (laid rows nodes life f g) row node x e in laid_read rows nodes life f f' g g' row node o.0 o.1 (ap is_ok (sym e)) s t

  pub leaves_write : (row node at : ℕ) (x : F) → Ok at ≡ found rows nodes row node → ((k : ℕ) → f' k ≡ cond (eqb k at) (Some x) (f k)) → ((k : ℕ) → g' k ≡ g k) → laid rows nodes life f' g' ≡ written (laid rows nodes life f g) row node x
  leaves_write row node at x e s t = let o = found_on rows nodes row node at e in laid_written rows nodes life f f' g g' row node x o.0 o.1 (λ k. s k ∙ ap (λ n. cond (eqb k n) (Some x) (f k)) o.2) t

  module _ (node start : ℕ) (e : Ok start ≡ found rows nodes 0 node) where
    same_start : start ≡ rows * node
    same_start = omega (arith, (found_on rows nodes 0 node start e).2)

    cond_run : {A : Type 0} (k : ℕ) (x y : A) → cond (leb start k && ltb k (start + rows)) x y ≡ cond (leb (rows * node) k && ltb k (rows * node + rows)) x y
    cond_run k x y = ap (λ n. cond (leb n k && ltb k (n + rows)) x y) same_start

    pub leaves_clear : ((k : ℕ) → f' k ≡ cond (leb start k && ltb k (start + rows)) None (f k)) → ((k : ℕ) → g' k ≡ cond (leb start k && ltb k (start + rows)) 0 (g k)) → laid rows nodes life f' g' ≡ cleared (laid rows nodes life f g) node
    leaves_clear s t = laid_cleared rows nodes life f f' g g' node (found_on rows nodes 0 node start e).1 (λ k. s k ∙ cond_run k None (f k)) (λ k. t k ∙ cond_run k 0 (g k))

    pub leaves_refresh : ((k : ℕ) → f' k ≡ f k) → ((k : ℕ) → g' k ≡ cond (leb start k && ltb k (start + rows)) 0 (g k)) → laid rows nodes life f' g' ≡ refreshed (laid rows nodes life f g) node
    leaves_refresh s t = laid_refreshed rows nodes life f f' g g' node (found_on rows nodes 0 node start e).1 s (λ k. t k ∙ cond_run k 0 (g k))

-- the answer of `clear` and of `refresh`
pub answers_sum : {F : Type 0} (rows nodes life : ℕ) (f : ℕ → Option F) (g : ℕ → ℕ) (node start sum : ℕ) → Ok start ≡ found rows nodes 0 node → sum ≡ total (λ k. g (start + k)) (start + rows - start) → Ok sum ≡ summed (laid rows nodes life f g) node
answers_sum rows nodes life f g node start sum e h =
    let o = found_on rows nodes 0 node start e in
    let s : start ≡ rows * node = omega (arith, o.2) in
    let n : start + rows - start ≡ rows = omega arith in
    ap Ok (h ∙ (ap (total (λ k. g (start + k))) n ∙ (ap (λ (a : ℕ). total (λ k. g (a + k)) rows) s ∙ sym (laid_total rows nodes life f g node o.1)))) ∙ sym (cond-true _ _ _ (lt-ltb node nodes o.1))
