-- Words of digits, and the numbers that they write. Assumes nothing.
use Rattle.std.proofs.Common.{◌≡◌, ℕ, ◌+◌, ◌-◌, ◌*◌, ◌^◌, ◌<◌, ◌≤◌, List, [], ◌∷◌, ◌++◌, map, length, Some, None, decimal, Option, Bor, Iter, refl, sym, ap, ◌∙◌, subst, ⊎_elim, append-nil, arith, MatchOption}
use Rattle.std.specs.Iterator.{Yields}
use Rattle.text.specs.Numbers.{NumberWord, Spells}
use Rattle.std.specs.Str.Parse.{digits_value, AllDigits}
use Rattle.std.specs.Char.{digit_value}
use Rattle.std.proofs.lemmas.Fn.{fronts}
use Rattle.std.proofs.lemmas.Int.Digits.{digits_push, digits_value_push}
use Rattle.std.proofs.lemmas.List.{length-append, map_push, nil_from_length, get_or_at}
use Rattle.std.proofs.lemmas.Str.Parse.{IsNumeralModel, numerals_by_value, tells_digits, digits_value_short, digit_at}
use Rattle.std.proofs.lemmas.Fmt.{decimal_nonempty, length-decimal-le, first_decimal, digits_decimal, decimal-digits_value, decimal_digit, decimal_injective}
use Rattle.std.proofs.lemmas.Bool.{lt-ltb, le-ltb, cond-true, cond-false, cases_lt}

pub own : IsNumeralModel (AllDigits 10) (digits_value 10)
own = numerals_by_value (AllDigits 10) tells_digits

-- what is written of a number below 100000 is a number word
pub shape : (bs : List ℕ) (n : ℕ) → n < 100000 → bs ≡ decimal n → NumberWord bs
shape bs n h e =
    let fits : n < 2 ^ 64 = omega arith in
    subst NumberWord (sym e) (record {
      some = decimal_nonempty n fits;
      short = length-decimal-le 5 n (omega arith) h fits;
      lead = λ z. ⊎_elim (λ l. ap length (decimal_digit n l)) (λ l. absurd (omega (arith, first_decimal n (omega arith) fits))) (cases_lt n 10);
      digits = digits_decimal own n fits;
    })

pub written : (bs : List ℕ) → NumberWord bs → (digits_value 10 bs < 100000) × (bs ≡ decimal (digits_value 10 bs))
written bs s =
    let low : digits_value 10 bs < 100000 = digits_value_short own bs 5 s.digits s.short in
    (low, sym (decimal-digits_value own bs s.digits s.some s.lead (omega arith)))

-- the digits that were read, and their value
abbrev pub Read : List ℕ → ℕ → Type 0
Read ds n = AllDigits 10 ds × (n ≡ digits_value 10 ds)

digit_is : (b : ℕ) → 48 ≤ b → b ≤ 57 → digit_value b ≡ b - 48
digit_is b low high = cond-false _ _ _ (le-ltb b 48 low) ∙ cond-true _ _ _ (lt-ltb b 58 (omega arith))

pub read_more : (seen : List (Bor ℕ)) (x : Bor ℕ) (n : ℕ) → Read (map (λ b. b.now) seen) n → 48 ≤ x.now → x.now ≤ 57 → Read (map (λ b. b.now) (seen ++ x ∷ [])) (n * 10 + (x.now - 48))
read_more seen x n read low high =
    let is = digit_is x.now low high in
    let ds : List ℕ = map (λ b. b.now) seen in
    subst (λ l. Read l (n * 10 + (x.now - 48))) (sym (map_push (λ b. b.now) seen x)) (
      digits_push 10 ds x.now read.0 (omega arith),
      omega (arith, digits_value_push 10 ds x.now, read.1, is),
    )

-- the bytes passed over, and those that are left
walked : (seen : List (Bor ℕ)) (s t : Iter ℕ) → Yields fronts s seen t → s.rest.now ≡ map (λ b. b.now) seen ++ t.rest.now
walked [] s t y = ap (λ i. i.rest.now) y
walked (x ∷ seen) s t y = y.1 ∙ ap (λ l. x.now ∷ l) (walked seen y.0 t y.2)

pub read_small : (seen : List (Bor ℕ)) (s t u : Iter ℕ) (x : Bor ℕ) (n : ℕ) → Yields fronts s seen t → fronts t (Some x) u → length s.rest.now ≤ 5 → Read (map (λ b. b.now) seen) n → n < 10000
read_small seen s t u x n y e short read =
    let ds : List ℕ = map (λ b. b.now) seen in
    let long = ap length (walked seen s t y ∙ ap (λ l. ds ++ l) e) ∙ length-append ds (x.now ∷ u.rest.now) in
    omega (arith, read.1, digits_value_short own ds 4 read.0 (omega (arith, long)))

-- the digits to the end, or up to a byte that is none
pub read_told : (seen : List (Bor ℕ)) (s t u : Iter ℕ) (n : ℕ) (o : Option (Bor ℕ)) (r : Option ℕ) → Yields fronts s seen t → fronts t o u → Read (map (λ b. b.now) seen) n
    → MatchOption o (r ≡ Some n) (λ x. (r ≡ None) × (48 ≤ x.now → x.now ≤ 57 → ⊥)) → MatchOption r (AllDigits 10 s.rest.now → ⊥) (Read s.rest.now)
read_told seen s t u n None r y e read h =
    let ds : List ℕ = map (λ b. b.now) seen in
    let whole : ds ≡ s.rest.now = sym (walked seen s t y ∙ ap (λ l. ds ++ l) (nil_from_length t.rest.now e.0) ∙ append-nil ds) in
    subst (λ o. MatchOption o (AllDigits 10 s.rest.now → ⊥) (Read s.rest.now)) (sym h) (subst (λ l. Read l n) whole read)
read_told seen s t u n (Some x) r y e read h =
    let ds : List ℕ = map (λ b. b.now) seen in
    let all : s.rest.now ≡ ds ++ x.now ∷ u.rest.now = walked seen s t y ∙ ap (λ l. ds ++ l) e in
    subst (λ o. MatchOption o (AllDigits 10 s.rest.now → ⊥) (Read s.rest.now)) (sym h.0) (λ d.
    let at = digit_at (ds ++ x.now ∷ u.rest.now) (length ds) (subst (AllDigits 10) all d) (omega (arith, length-append ds (x.now ∷ u.rest.now))) in
    let is = get_or_at ds x.now u.rest.now 0 (length ds) refl in
    h.1 (omega (arith, is, at)) (omega (arith, is, at)))

pub spells : (bs : List ℕ) (r : Option ℕ) → MatchOption r (NumberWord bs → ⊥) (λ n. NumberWord bs × (n ≡ digits_value 10 bs)) → MatchOption r ((n : ℕ) → Spells bs n → ⊥) (Spells bs)
spells bs None h = λ n s. h (shape bs n s.0 s.1)
spells bs (Some m) h =
    let w = written bs h.0 in
    (omega (arith, w.0, h.1), w.1 ∙ ap decimal (sym h.1))

-- a number that is written is read back
pub back : (bs : List ℕ) (r : Option ℕ) → MatchOption r ((n : ℕ) → Spells bs n → ⊥) (Spells bs) → (n : ℕ) → Spells bs n → r ≡ Some n
back bs None h n s = absurd (h n s)
back bs (Some m) h n s = ap Some (decimal_injective m n (omega (arith, h.0)) (omega (arith, s.0)) (sym h.1 ∙ s.1))
