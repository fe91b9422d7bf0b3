-- Words of the eleven decimal symbols, by number. Assumes nothing.
use Rattle.std.specs.Prelude.{◌≡◌, ℕ, ◌+◌, ◌<◌, ◌≤◌, List, [], ◌∷◌, length, codes, decimal, Option, MatchOption, ◌==◌, ◌≢◌, slice_index, refl}
use Rattle.std.proofs.Common.{sym, ap, subst, ◌∙◌, arith}
use Rattle.std.proofs.lemmas.Fmt.{decimal_digit}
use Rattle.std.proofs.lemmas.Bool.{cond_both, cond-false, eqb-true, eqb-false, ne_eqb}
use Rattle.std.proofs.lemmas.Slice.Eq.{text_from_reads}
use Rattle.field.specs.Decimal.{symbol_of}
use Rattle.field.specs.declared.decimal.Decimal.{Decimal}
use Rattle.field.specs.Decimals.{decimal_numbering}
use Rattle.symbols.specs.Words.{eleven_word, decimal_word}

pub one_byte : (bs : List ℕ) (n : ℕ) → bs ≡ eleven_word n → length bs ≡ 1
one_byte bs n e = ap length e ∙ cond_both (n == 10) (codes "X") ((48 + n) ∷ []) (λ w. length w ≡ 1) (λ _. refl) (λ _. refl)

-- the byte is a digit or X
pub its_byte : (bs : List ℕ) (n b : ℕ) → n < 11 → bs ≡ eleven_word n → slice_index bs 0 ≡ b → (b ≢ 88) → (48 ≤ b → b ≤ 57 → ⊥) → ⊥
its_byte bs n b low e is notX notDigit =
    cond_both (n == 10) (codes "X") ((48 + n) ∷ []) (λ w. slice_index bs 0 ≢ slice_index w 0)
    (λ _ x. notX (sym is ∙ x))
    (λ t x. notDigit (omega (arith, x)) (omega (arith, x, eqb-false n 10 t)))
    (ap (λ w. slice_index w 0) e)

pub spells_ten : (bs : List ℕ) → length bs ≡ 1 → slice_index bs 0 ≡ 88 → bs ≡ eleven_word 10
spells_ten bs one is = text_from_reads bs (codes "X") one (is, tt)

pub spells_digit : (bs : List ℕ) (n : ℕ) → length bs ≡ 1 → n < 10 → slice_index bs 0 ≡ 48 + n → bs ≡ eleven_word n
spells_digit bs n one low is = text_from_reads bs ((48 + n) ∷ []) one (is, tt) ∙ sym (cond-false (n == 10) (codes "X") ((48 + n) ∷ []) (ne_eqb n 10 (λ e. omega arith)))

-- the symbol that a digit's number has
pub reads_digit : (bs : List ℕ) (n : ℕ) (r : Option Decimal) → length bs ≡ 1 → n < 10 → slice_index bs 0 ≡ 48 + n → r ≡ symbol_of n → MatchOption r ((s : Decimal) → bs ≢ decimal_word s) (λ s. bs ≡ decimal_word s)
reads_digit bs n r one low is e =
    let found = decimal_numbering.number_symbol n (omega arith) in
    subst (λ (o : Option Decimal). MatchOption o ((s : Decimal) → bs ≢ decimal_word s) (λ s. bs ≡ decimal_word s)) (sym (e ∙ found.1))
    (spells_digit bs n one low is ∙ ap eleven_word (sym found.2))

pub digit_word : (n : ℕ) → n < 10 → decimal n ≡ eleven_word n
digit_word n low = decimal_digit n low ∙ sym (cond-false (n == 10) (codes "X") ((48 + n) ∷ []) (ne_eqb n 10 (λ e. omega arith)))

pub ten_word : (n : ℕ) → 10 ≤ n → n < 11 → codes "X" ≡ eleven_word n
ten_word n many low = let e : n ≡ 10 = omega arith in ap eleven_word (sym e)

-- no two numbers have one word
pub eleven_apart : (m n : ℕ) → m < 11 → n < 11 → eleven_word m ≡ eleven_word n → m ≡ n
eleven_apart m n lm ln e =
    cond_both (m == 10) (codes "X") ((48 + m) ∷ []) (λ w. w ≡ eleven_word n → m ≡ n)
    (λ tm. cond_both (n == 10) (codes "X") ((48 + n) ∷ []) (λ w. codes "X" ≡ w → m ≡ n) (λ tn _. eqb-true m 10 tm ∙ sym (eqb-true n 10 tn)) (λ tn x. absurd (omega (arith, ap (λ w. slice_index w 0) x))))
    (λ tm. cond_both (n == 10) (codes "X") ((48 + n) ∷ []) (λ w. (48 + m) ∷ [] ≡ w → m ≡ n) (λ tn x. absurd (omega (arith, ap (λ w. slice_index w 0) x))) (λ tn x. omega (arith, ap (λ w. slice_index w 0) x)))
    e
