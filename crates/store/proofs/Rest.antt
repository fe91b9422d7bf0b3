-- The memory beyond a store, place by place, and after more than one change.
use Rattle.std.proofs.Common.{◌≡◌, ℕ, ◌+◌, ◌-◌, ◌≤◌, List, length, get_or, drop, sym, refl, ap, ◌∙◌, arith}
use Rattle.std.proofs.lemmas.List.{ext_get_or, get_or-drop, length-drop, drop-drop}
use Rattle.store.specs.Beyond.{Beyond}

pub beyond_each : {X : Type 0} (d : X) (used : ℕ) (before after : List X) → length after ≡ length before → ((k : ℕ) → used ≤ k → get_or after k d ≡ get_or before k d) → Beyond used before after
beyond_each d used before after l h = record { long = l; rest = ext_get_or d (drop used after) (drop used before) (length-drop used after ∙ (ap (λ n. n - used) l ∙ sym (length-drop used before))) (λ i b. get_or-drop used after i d ∙ (h (used + i) (omega arith) ∙ sym (get_or-drop used before i d))) }

pub beyond_same : {X : Type 0} (used : ℕ) (before : List X) → Beyond used before before
beyond_same used before = record { long = refl; rest = refl }

-- what is kept beyond a part of it is kept beyond more
pub beyond_wider : {X : Type 0} (n m : ℕ) (before after : List X) → n ≤ m → Beyond n before after → Beyond m before after
beyond_wider n m before after l b = let e : n + (m - n) ≡ m = omega arith in record { long = b.long; rest = ap (λ k. drop k after) (sym e) ∙ (sym (drop-drop (m - n) n after) ∙ (ap (drop (m - n)) b.rest ∙ (drop-drop (m - n) n before ∙ ap (λ k. drop k before) e))) }

-- and by two changes in turn
pub beyond_then : {X : Type 0} (n m : ℕ) (xs ys zs : List X) → n ≤ m → Beyond n xs ys → Beyond m ys zs → Beyond m xs zs
beyond_then n m xs ys zs l p q = let w = beyond_wider n m xs ys l p in record { long = q.long ∙ w.long; rest = q.rest ∙ w.rest }
