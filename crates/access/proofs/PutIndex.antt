-- What the listing of a put has at an index. Assumes nothing.
use Rattle.std.proofs.Common.{◌≡◌, ℕ, zero, suc, ◌+◌, ◌-◌, ◌<◌, ◌≤◌, ◌++◌, length, get_or, sym, refl, ap, subst, arith}
use Rattle.std.proofs.lemmas.List.FromFn.{length-map-range_with_len}
use Rattle.sheet.specs.declared.place.Place.{Place}
use Rattle.sheet.specs.Places.{at}
use Rattle.array.specs.declared.parameters.Parameters.{Parameters}
use Rattle.array.specs.Layout.{steps, offset, step_node}
use Rattle.array.proofs.Indexed.{At, at_left, at_right, at_counted}
use Rattle.access.specs.Put.{rule_places, crossings, crossed_places, carries, carried_places, put_places}
use Rattle.access.proofs.Indices.{place_read}
use Rattle.access.proofs.Touched.{carrying, carries_few, put_length}

module _ (p : Parameters) (i j : ℕ) (hi : i < p.k) (hj : j < p.k) (x : ℕ) (is : offset p i j ≡ x) where
  rule_length : length (rule_places p i) ≡ p.a
  unfolding rule_places
  rule_length = length-map-range_with_len (λ c. at i (p.k + c)) 0 p.a

  crossed_length : length (crossed_places p i x) ≡ crossings p x
  unfolding crossed_places
  crossed_length = length-map-range_with_len (λ t. at i (step_node p t)) (p.tau + 1) (crossings p x)

  -- a place, from its index
  pub data_read : (l : ℕ) → l ≡ 0 → at i j ≡ get_or (put_places p i j x) l (at i j)
  unfolding put_places
  data_read l e = sym (ap (λ l. get_or (put_places p i j x) l (at i j)) e)

  later : (l : ℕ) (q : Place) → 1 ≤ l → At (rule_places p i ++ (crossed_places p i x ++ carried_places p j x)) (l - 1) q → At (put_places p i j x) l q
  unfolding put_places
  later zero q a h = absurd (omega arith)
  later (suc l) q a h = subst (λ n. At (rule_places p i ++ (crossed_places p i x ++ carried_places p j x)) n q) (omega arith) h

  pub rule_read : (l m : ℕ) → 1 ≤ l → l ≤ p.a → m ≡ p.k + (l - 1) → at i m ≡ get_or (put_places p i j x) l (at i m)
  unfolding rule_places
  rule_read l m a b e =
      place_read (put_places p i j x) l i m i (p.k + (l - 1))
      (later l _ a (at_left (rule_places p i) _ (l - 1) _ (at_counted (λ c. at i (p.k + c)) 0 p.a (l - 1) (l - 1) (omega arith) (omega arith)))) refl e

  pub crossed_read : (l m : ℕ) → p.a < l → l - p.a ≤ crossings p x → m ≡ step_node p (p.tau + (l - p.a)) → at i m ≡ get_or (put_places p i j x) l (at i m)
  unfolding crossed_places
  crossed_read l m a b e =
      let r = rule_length in
      place_read (put_places p i j x) l i m i (step_node p (p.tau + (l - p.a)))
      (later l _ (omega arith)
      (at_right (rule_places p i) (crossed_places p i x ++ carried_places p j x) (l - p.a - 1) (l - 1) _ (omega arith)
      (at_left (crossed_places p i x) (carried_places p j x) (l - p.a - 1) _
      (at_counted (λ t. at i (step_node p t)) (p.tau + 1) (crossings p x) (l - p.a - 1) (p.tau + (l - p.a)) (omega arith) (omega arith))))) refl e

  module _ (l : ℕ) (inside : l < length (put_places p i j x)) (past : crossings p x < l - p.a) where
    last_is : (l ≡ p.a + crossings p x + 1) × (x < x + carries p x)
    last_is = let n = put_length p i j hi hj x is in let f = carries_few p x in (omega arith, omega arith)

    pub carried_step : (1 ≤ x) × (x ≤ steps p)
    carried_step = let (e, f) = last_is in let (a, b, c) = carrying p x x (omega arith) f in (b, c)

    pub carried_read : (m : ℕ) → m ≡ step_node p x → at j m ≡ get_or (put_places p i j x) l (at j m)
    unfolding carried_places
    carried_read m g =
        let (e, f) = last_is in
        let r = rule_length in
        let s = crossed_length in
        place_read (put_places p i j x) l j m j (step_node p x)
        (later l _ (omega arith)
        (at_right (rule_places p i) (crossed_places p i x ++ carried_places p j x) (crossings p x) (l - 1) _ (omega arith)
        (at_right (crossed_places p i x) (carried_places p j x) 0 (crossings p x) _ (omega arith)
        (at_counted (λ t. at j (step_node p t)) x (carries p x) 0 x (omega arith) (omega arith))))) refl g

-- each place of a put, from its index
pub ruleset put_reads = (data_read, rule_read, crossed_read, carried_step, carried_read)
