-- The symbol that comes back is the one that was taken away. Assumes nothing.
use Rattle.std.proofs.Common.{◌≡◌, ℕ, ◌+◌, ◌<◌, ◌≤◌, ltb, List, map, length, get_or, Ok, Result, sym, ap, ◌∙◌, subst, ⊎_elim, arith}
use Rattle.std.specs.List.{range_with_len}
use Rattle.std.proofs.lemmas.Bool.{cond-true, cond-false, lt-ltb, le-ltb, cases_lt}
use Rattle.std.proofs.lemmas.Simd.{map-map}
use Rattle.std.proofs.lemmas.List.FromFn.{length-map-range_with_len, get_or-map-range_with_len}
use Rattle.field.specs.Decimal.{symbol_of, decimal}
use Rattle.field.specs.declared.decimal.Decimal.{Decimal}
use Rattle.field.specs.declared.decimal.Decimal.TheVariants.{Zero}
use Rattle.field.specs.Decimals.{decimal_laws, decimal_numbering}
use Rattle.row.specs.Polynomial.{value}
use Rattle.row.specs.RowRule.{stands, RowRule, Within, Different, Taken}
use Rattle.row.specs.Answers.{AnyGiveAll}
use Rattle.row.specs.declared.fault.RowFault.{RowFault}
use Rattle.row.proofs.Rules.{rule}
use Rattle.rebuilding.specs.Report.{symbol_in, skip, read_places, known}

-- the numbers 0, 1, .. with j left out

skip_before : (j i : ℕ) → i < j → skip j i ≡ i
skip_before j i h = cond-true (ltb i j) i (i + 1) (lt-ltb i j h)

skip_past : (j i : ℕ) → j ≤ i → skip j i ≡ i + 1
skip_past j i h = cond-false (ltb i j) i (i + 1) (le-ltb i j h)

skip_below : (j i k : ℕ) → i < k → skip j i ≤ k
skip_below j i k h = ⊎_elim (λ b. omega (arith, skip_before j i b)) (λ b. omega (arith, skip_past j i b)) (cases_lt i j)

skip_one : (j i l : ℕ) → skip j i ≡ skip j l → i ≡ l
skip_one j i l e =
    ⊎_elim
    (λ bi. ⊎_elim (λ bl. omega (arith, skip_before j i bi, skip_before j l bl)) (λ bl. omega (arith, skip_before j i bi, skip_past j l bl)) (cases_lt l j))
    (λ bi. ⊎_elim (λ bl. omega (arith, skip_past j i bi, skip_before j l bl)) (λ bl. omega (arith, skip_past j i bi, skip_past j l bl)) (cases_lt l j))
    (cases_lt i j)

-- the symbols that are read
abbrev pub read_symbols : List Decimal → ℕ → List Decimal
read_symbols d j = map (λ i. known d (symbol_in d (length d)) (skip j i)) (range_with_len 0 (length d))

get_or_places : (k j l : ℕ) → l < k → get_or (read_places k j) l 0 ≡ skip j l
get_or_places k j l h = get_or-map-range_with_len (skip j) 0 k l l 0 h (omega arith)

pub comes_back : (d : List Decimal) (j : ℕ) (r : Result Decimal RowFault) → length d ≤ 9 → j < length d
    → AnyGiveAll decimal 11 symbol_of (read_places (length d) j) (read_symbols d j) j r → r ≡ Ok (get_or d j Zero)
comes_back d j r small place any =
    let k = length d in
    let law : RowRule decimal symbol_of d = rule decimal_laws decimal_numbering d (omega arith) in
    let p = law.polynomial in
    let long = length-map-range_with_len (skip j) 0 k in
    let f : ℕ → Decimal = λ i. known d (symbol_in d k) (skip j i) in
    let within : Within 11 (read_places k j)
    = λ l h. let b : l < k = omega arith in omega (arith, get_or_places k j l b, skip_below j l k b) in
    let different : Different (read_places k j)
    = λ i l hi hl e.
    let bi : i < k = omega arith in
    let bl : l < k = omega arith in
    skip_one j i l (sym (get_or_places k j i bi) ∙ e ∙ get_or_places k j l bl) in
    let known_value : (n : ℕ) → n ≤ k → known d (symbol_in d k) n ≡ value decimal p (stands decimal symbol_of n)
    = λ n h.
    ⊎_elim
    (λ b. cond-true (ltb n k) _ _ (lt-ltb n k b) ∙ sym (law.exists.values n b))
    (λ b. let e : k ≡ n = omega arith in cond-false (ltb n k) _ _ (le-ltb n k b) ∙ law.computed k ∙ ap (λ t. value decimal p (stands decimal symbol_of t)) e)
    (cases_lt n k) in
    let taken : Taken decimal symbol_of p (read_places k j) (read_symbols d j)
    = λ l h.
    let b : l < k = omega arith in
    get_or-map-range_with_len f 0 k l l Zero b (omega arith) ∙ known_value (skip j l) (skip_below j l k b) ∙ ap (λ t. value decimal p (stands decimal symbol_of t)) (sym (get_or_places k j l b)) in
    any d p law.exists long (length-map-range_with_len f 0 k) within different (omega arith) taken ∙ ap Ok (law.exists.values j place)

-- the symbols at the numbers that are read
known_there : (d : List Decimal) (last : Decimal) (j : ℕ) (numbers : List ℕ) → last ≡ symbol_in d (length d) → numbers ≡ read_places (length d) j
    → map (known d last) numbers ≡ read_symbols d j
known_there d last j numbers is en =
    (λ i. map (known d (is i)) (en i)) ∙ map-map (known d (symbol_in d (length d))) (skip j) (range_with_len 0 (length d))

pub regains : (d : List Decimal) (last : Decimal) (j : ℕ) (numbers : List ℕ) (values : List Decimal) (r : Result Decimal RowFault)
    → length d ≤ 9 → j < length d → last ≡ symbol_in d (length d) → numbers ≡ read_places (length d) j → values ≡ map (known d last) numbers
    → AnyGiveAll decimal 11 symbol_of numbers values j r → r ≡ Ok (get_or d j Zero)
regains d last j numbers values r small place is en ev any =
    comes_back d j r small place
    (subst (λ n. AnyGiveAll decimal 11 symbol_of n (read_symbols d j) j r) en
    (subst (λ v. AnyGiveAll decimal 11 symbol_of numbers v j r) (ev ∙ known_there d last j numbers is en) any))
