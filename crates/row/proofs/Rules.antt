-- The row rule's laws, for every numbered field. Assumes nothing.
use Rattle.std.proofs.Common.{◌≡◌, ℕ, suc, ◌<◌, ◌≤◌, false, cond, eqb, ltb, leb, List, [], ◌∷◌, map, min, length, get_or, set, Option, Result, sym, refl, ap, ◌∙◌, ⊎_elim, arith, length-set, get_or-set_other, get_or-set_same}
use Rattle.std.proofs.lemmas.Bool.Decides.{nat_tests}
use Rattle.std.proofs.lemmas.Bool.{ne_eqb, lt-ltb, le-ltb, lt-leb, cases_eq, cond-true, cond-false, or_from}
use Rattle.std.proofs.lemmas.List.FromFn.{length-map-range_with_len, get_or-map-range_with_len, fill_by_all}
use Rattle.std.proofs.lemmas.List.{get_or_past}
use Rattle.std.specs.List.{range_with_len}
use Rattle.field.specs.Laws.{Operations, FieldLaws, Numbering}
use Rattle.row.specs.Polynomial.{value}
use Rattle.row.specs.Interpolation.{Apart, sum_below, basis, interpolate}
use Rattle.row.specs.RowRule.{stands, RowPolynomial, row_symbol, RowRule, Within, Different, Taken, points, rebuilt, weight_of, Replacing}
use Rattle.row.specs.Weights.{weighed, data_weights, ServeData, listed_weight, listed_weights, ServeListed}
use Rattle.row.specs.declared.fault.RowFault.{RowFault}
use Rattle.row.specs.Answers.{listed, repeated, beyond, rebuild_answer, AnyGiveAll}
use Rattle.row.proofs.Algebra.{sum_comm, sub_add, product_zero, zero_product}
use Rattle.row.proofs.Polynomial.{unique_coefficients}
use Rattle.row.proofs.Lagrange.{exists, row_rule, sum_as, sum_past, change}
use Rattle.row.proofs.Numbers.{numbered_apart}

-- different numbers below the size pass the tests

listed_none : (n : ℕ) (ns : List ℕ) → ((l : ℕ) → l < length ns → n ≡ get_or ns l 0 → ⊥) → listed n ns ≡ false
listed_none n [] h = refl
listed_none n (m ∷ ms) h =
    or_from (eqb n m) (listed n ms) (ne_eqb n m (h 0 (omega arith))) (listed_none n ms (λ l b. h (suc l) (omega arith)))

pub repeated_none : (ns : List ℕ) → Different ns → repeated ns ≡ false
repeated_none [] h = refl
repeated_none (n ∷ ns) h =
    or_from (listed n ns) (repeated ns)
    (listed_none n ns (λ l b e. let z : ◌≡◌ {A = ℕ} 0 (suc l) = h 0 (suc l) (omega arith) (omega arith) e in omega arith))
    (repeated_none ns (λ i l bi bl e. let z : suc i ≡ suc l = h (suc i) (suc l) (omega arith) (omega arith) e in omega arith))

pub beyond_none : (size : ℕ) (ns : List ℕ) → Within size ns → beyond size ns ≡ false
beyond_none size [] h = refl
beyond_none size (n ∷ ns) h =
    or_from (leb size n) (beyond size ns) (lt-leb size n (h 0 (omega arith))) (beyond_none size ns (λ l b. h (suc l) (omega arith)))

-- weights

module _ {F : Type 0} {o : Operations F} (laws : FieldLaws o) where
  -- of k points all count
  pub all_counted : (point : ℕ → F) (k : ℕ) (x : F) → map (λ l. cond (ltb l k) (basis o point k l x) o.zero) (range_with_len 0 k) ≡ map (λ l. basis o point k l x) (range_with_len 0 k)
  all_counted point k x =
      let f = λ (l : ℕ). cond (ltb l k) (basis o point k l x) o.zero in
      fill_by_all (λ l. basis o point k l x) (map f (range_with_len 0 k)) k o.zero (length-map-range_with_len f 0 k)
      (λ l h. get_or-map-range_with_len f 0 k l l o.zero h (omega arith) ∙ cond-true (ltb l k) _ _ (lt-ltb l k h))

  -- a value that is missing adds nothing
  pub weighed_pairs : (weights values : List F) (n : ℕ) → n ≡ min (length weights) (length values)
      → sum_below o n (λ l. o.product (get_or values l o.zero) (get_or weights l o.zero)) ≡ weighed o weights values
  weighed_pairs weights values n e =
      sym (sum_past laws (λ l. o.product (get_or values l o.zero) (get_or weights l o.zero)) n (length weights) (omega arith)
      (λ l h past. ap (λ t. o.product t (get_or weights l o.zero)) (get_or_past values l o.zero (omega arith)) ∙ zero_product laws _))

module _ {F : Type 0} {o : Operations F} (laws : FieldLaws o) (symbol : ℕ → Option F) where
  pub serve_data : (k m : ℕ) → ServeData o symbol m (data_weights o symbol k m)
  serve_data k m d e =
      let w = λ (j : ℕ). weight_of o symbol k j m in
      let long : length d ≡ k = e ∙ length-map-range_with_len w 0 k in
      ap (λ n. sum_below o n (λ l. o.product (get_or d l o.zero) (get_or (data_weights o symbol k m) l o.zero))) (length-map-range_with_len w 0 k)
      ∙ sum_as laws k _ _ (λ l h. ap (o.product (get_or d l o.zero)) (get_or-map-range_with_len w 0 k l l o.zero h (omega arith)))
      ∙ ap (λ n. interpolate o (stands o symbol) n (λ j. get_or d j o.zero) (stands o symbol m)) (sym long)

  pub weighed_listed : (numbers : List ℕ) (m n : ℕ) → length numbers ≤ n → (values : List F)
      → weighed o (listed_weights o symbol numbers m n) values ≡ rebuilt o symbol numbers values m
  weighed_listed numbers m n h values =
      let w = listed_weight o symbol numbers m in
      let k = length numbers in
      let v = λ (l : ℕ). get_or values l o.zero in
      ap (λ i. sum_below o i (λ l. o.product (v l) (get_or (listed_weights o symbol numbers m n) l o.zero))) (length-map-range_with_len w 0 n)
      ∙ sum_as laws n _ (λ l. o.product (v l) (w l)) (λ l b. ap (o.product (v l)) (get_or-map-range_with_len w 0 n l l o.zero b (omega arith)))
      ∙ sum_past laws (λ l. o.product (v l) (w l)) k n h
      (λ l b c. ap (o.product (v l)) (cond-false (ltb l k) _ _ (le-ltb l k c)) ∙ product_zero laws (v l))
      ∙ sum_as laws k _ _ (λ l b. ap (o.product (v l)) (cond-true (ltb l k) _ _ (lt-ltb l k b)))

module _ {F : Type 0} {o : Operations F} (laws : FieldLaws o) {size : ℕ} {symbol : ℕ → Option F} {number : F → ℕ} (numbering : Numbering size symbol number) where
  pub first_apart : (k : ℕ) → k ≤ size → Apart (stands o symbol) k
  first_apart k h i j hi hj e = numbered_apart o.zero size symbol number numbering i j (omega arith) (omega arith) e

  pub points_apart : (numbers : List ℕ) → Within size numbers → Different numbers → Apart (points o symbol numbers) (length numbers)
  points_apart numbers within different i j hi hj e =
      different i j hi hj (numbered_apart o.zero size symbol number numbering (get_or numbers i 0) (get_or numbers j 0) (within i hi) (within j hj) e)

  pub rule : (d : List F) → length d ≤ size → RowRule o symbol d
  rule d h =
      let k = length d in
      let at = stands o symbol in
      let given = λ (j : ℕ). get_or d j o.zero in
      let (p, degree, meets) = exists laws at k (first_apart k h) given in
      record {
        polynomial = p;
        exists = record { degree = degree; values = meets };
        unique = λ q r. unique_coefficients laws k q p r.degree degree at (first_apart k h) (λ l b. r.values l b ∙ sym (meets l b));
        computed = λ m. sym (row_rule laws at k (first_apart k h) given p degree meets (at m));
      }

  -- the value of every polynomial of the row is what is computed
  pub computed : (d p : List F) → length d ≤ size → RowPolynomial o symbol d p → (m : ℕ) → value o p (stands o symbol m) ≡ row_symbol o symbol d m
  computed d p h r m =
      row_rule laws (stands o symbol) (length d) (first_apart (length d) h) (λ j. get_or d j o.zero) p r.degree r.values (stands o symbol m)

  pub rebuilds : (numbers : List ℕ) (values p : List F) → length p ≡ length numbers → Within size numbers → Different numbers
      → Taken o symbol p numbers values → (m : ℕ) → rebuilt o symbol numbers values m ≡ value o p (stands o symbol m)
  rebuilds numbers values p e within different taken m =
      sym (row_rule laws (points o symbol numbers) (length numbers) (points_apart numbers within different) (λ l. get_or values l o.zero) p e (λ l h. sym (taken l h)) (stands o symbol m))

  pub any_give_all : (numbers : List ℕ) (values : List F) (m : ℕ) (answer : Result F RowFault)
      → answer ≡ rebuild_answer o size symbol numbers values m → AnyGiveAll o size symbol numbers values m answer
  any_give_all numbers values m answer e d p r ln lv within different below taken =
      let b = beyond_none size numbers within in
      let t = repeated_none numbers different in
      let is = rebuilds numbers values p (r.degree ∙ sym ln) within different taken m in
      grind (arith, nat_tests)

  pub serve_listed : (numbers : List ℕ) (m n : ℕ) → ServeListed o size symbol numbers m (listed_weights o symbol numbers m n)
  serve_listed numbers m n values p e long within different taken =
      weighed_listed laws symbol numbers m n (omega (arith, length-map-range_with_len (listed_weight o symbol numbers m) 0 n)) values
      ∙ rebuilds numbers values p e within different taken m

  -- one symbol replaced: the row's symbol at m changes by the difference times the symbol's weight
  row_set : (d : List F) (j : ℕ) (v : F) → j < length d → (m : ℕ)
      → row_symbol o symbol (set d j v) m ≡ o.sum (row_symbol o symbol d m) (o.product (o.difference v (get_or d j o.zero)) (weight_of o symbol (length d) j m))
  row_set d j v h m =
      let old = λ (l : ℕ). get_or d l o.zero in
      let e = o.difference v (old j) in
      let b = λ (l : ℕ). weight_of o symbol (length d) l m in
      ap (λ n. interpolate o (stands o symbol) n (λ l. get_or (set d j v) l o.zero) (stands o symbol m)) (length-set d j v)
      ∙ sum_as laws (length d) _ (λ l. o.product (cond (eqb l j) (o.sum (old l) e) (old l)) (b l))
      (λ l w. ap (λ t. o.product t (b l)) (new l w))
      ∙ change laws (stands o symbol) (length d) old j e (stands o symbol m) h
    where
      new : (l : ℕ) → l < length d
          → get_or (set d j v) l o.zero ≡ cond (eqb l j) (o.sum (get_or d l o.zero) (o.difference v (get_or d j o.zero))) (get_or d l o.zero)
      new l w =
          let back = sum_comm laws (get_or d j o.zero) (o.difference v (get_or d j o.zero)) in
          let given = sub_add laws v (get_or d j o.zero) in
          let put = get_or-set_same d j v o.zero h in
          ⊎_elim (λ s. grind (arith, nat_tests)) (λ t. let kept = get_or-set_other d j l v o.zero t in grind (arith, nat_tests)) (cases_eq l j)

  pub replacing : (weight old new before after : F) → after ≡ o.sum before (o.product (o.difference new old) weight) → Replacing o size symbol weight old new before after
  replacing weight old new before after is d p q j m h b w was rp rq at =
      let e = row_set d j new b m in
      let f : before ≡ row_symbol o symbol d m = at ∙ computed d p h rp m in
      let t : value o q (stands o symbol m) ≡ row_symbol o symbol (set d j new) m
      = computed (set d j new) q (omega (arith, length-set d j new)) rq m in
      cc
