-- One write after another. Assumes nothing.
use Rattle.std.proofs.Common.{◌≡◌, ℕ, ◌+◌, List, [], ◌∷◌, ◌++◌, length, codes, decimal, ◌==◌, sym, ap, ◌∙◌, ap₂, ⊎_elim, append_assoc, arith}
use Rattle.std.specs.List.{range_with_len, flat_map}
use Rattle.std.proofs.lemmas.Bool.{eqb-false, cond-true, cond-false, cases_Bool}
use Rattle.std.proofs.lemmas.Fmt.{decimal_digit}
use Rattle.std.proofs.lemmas.List.{flat_map_more, map-id}
use Rattle.std.proofs.lemmas.List.FromFn.{map-range_with_len_more}
use Rattle.field.specs.declared.decimal.Decimal.{Decimal}
use Rattle.field.specs.Decimal.{number_of}
use Rattle.field.specs.Decimals.{number_below}
use Rattle.field.specs.Text.{text_of}
use Rattle.row_text.specs.Input.{glyph_of}
use Rattle.row_text.specs.Faults.{fault_text}
use Rattle.row_text.specs.declared.fault.InputFault.{InputFault}
use Rattle.row_text.specs.declared.fault.InputFault.TheVariants.{NotText, NoSymbol, WordCount}
use Rattle.rebuilding.specs.Report.{spaced, spaced_number, symbol_in, row_line, place_line, fault_line}

pub after : (l₀ l₁ l₂ a b : List ℕ) → l₁ ≡ l₀ ++ a → l₂ ≡ l₁ ++ b → l₂ ≡ l₀ ++ (a ++ b)
after l₀ l₁ l₂ a b first second = second ∙ ap (λ l. l ++ b) first ∙ append_assoc l₀ a b

-- a symbol is written as its one byte
pub one_glyph : (u : Decimal) → text_of u ≡ glyph_of u ∷ []
one_glyph u =
    let ten = number_of u == 10 in
    ⊎_elim
    (λ t. cond-true ten (codes "X") (decimal (number_of u)) t ∙ ap (λ b. b ∷ []) (sym (cond-true ten 88 (48 + number_of u) t)))
    (λ f.
    cond-false ten (codes "X") (decimal (number_of u)) f ∙ decimal_digit (number_of u) (omega (arith, number_below u, eqb-false (number_of u) 10 f))
    ∙ ap (λ b. b ∷ []) (sym (cond-false ten 88 (48 + number_of u) f)))
    (cases_Bool ten)

pub row_written : (d : List Decimal) (u v : Decimal) (l₀ l₁ l₂ l₃ : List ℕ) → u ≡ symbol_in d (length d) → v ≡ symbol_in d (length d + 1)
    → l₁ ≡ l₀ ++ codes "row" → l₂ ≡ l₁ ++ flat_map spaced d → l₃ ≡ l₂ ++ 32 ∷ (text_of u ++ 32 ∷ (text_of v ++ 10 ∷ [])) → l₃ ≡ l₀ ++ row_line d
unfolding row_line
row_written d u v l₀ l₁ l₂ l₃ eu ev first second third =
    after l₀ l₁ l₃ (codes "row") _ first
    (after l₁ l₂ l₃ (flat_map spaced d) (spaced u ++ (spaced v ++ 10 ∷ [])) second
    (third ∙ ap₂ (λ x y. l₂ ++ 32 ∷ (x ++ 32 ∷ (y ++ 10 ∷ []))) (one_glyph u) (one_glyph v)))
    ∙ ap₂ (λ x y. l₀ ++ (codes "row" ++ (flat_map spaced d ++ (spaced x ++ (spaced y ++ 10 ∷ []))))) eu ev

pub place_written : (j : ℕ) (numbers : List ℕ) (u : Decimal) (l₀ l₁ l₂ l₃ : List ℕ) → l₁ ≡ l₀ ++ (codes "place " ++ (decimal j ++ codes " read"))
    → l₂ ≡ l₁ ++ flat_map spaced_number numbers → l₃ ≡ l₂ ++ (codes " gave " ++ (text_of u ++ 10 ∷ [])) → l₃ ≡ l₀ ++ place_line j numbers u
unfolding place_line
place_written j numbers u l₀ l₁ l₂ l₃ first second third =
    let read = flat_map spaced_number numbers ++ (codes " gave" ++ (spaced u ++ 10 ∷ [])) in
    after l₀ l₁ l₃ (codes "place " ++ (decimal j ++ codes " read")) read first
    (after l₁ l₂ l₃ (flat_map spaced_number numbers) (codes " gave" ++ (spaced u ++ 10 ∷ [])) second
    (third ∙ ap (λ x. l₂ ++ (codes " gave " ++ (x ++ 10 ∷ []))) (one_glyph u)))
    ∙ ap (λ l. l₀ ++ (codes "place " ++ l)) (append_assoc (decimal j) (codes " read") read)

pub fault_written : (fault : InputFault) → fault_text fault ++ 10 ∷ [] ≡ fault_line fault
unfolding fault_line
fault_written (NotText column) = simp append_assoc
fault_written (NoSymbol word column) = simp append_assoc
fault_written (WordCount words) = simp append_assoc

counting_more : (n : ℕ) → range_with_len 0 (n + 1) ≡ range_with_len 0 n ++ n ∷ []
counting_more n =
    sym (map-id (range_with_len 0 (n + 1))) ∙ map-range_with_len_more (λ (x : ℕ). x) 0 n n (omega arith) ∙ ap (λ l. l ++ n ∷ []) (map-id (range_with_len 0 n))

-- a loop that writes f of each number below
pub numbered_more : (f : ℕ → List ℕ) (start before after : List ℕ) (n : ℕ)
    → before ≡ start ++ flat_map f (range_with_len 0 n) → after ≡ before ++ f n → after ≡ start ++ flat_map f (range_with_len 0 (n + 1))
numbered_more f start before after n b a =
    a ∙ ap (λ l. l ++ f n) b ∙ flat_map_more f start (range_with_len 0 n) n ∙ ap (λ l. start ++ flat_map f l) (sym (counting_more n))
