-- Symbol words, and the symbols that they write. Assumes nothing.
use Rattle.std.specs.Prelude.{◌≡◌, ℕ, ◌+◌, true, false, cond, List, [], ◌∷◌, Some, codes, decimal, Option, MatchOption, ◌==◌, ◌≢◌, slice_index, refl}
use Rattle.std.proofs.Common.{sym, ap, subst, ◌∙◌, ⊎_elim, arith}
use Rattle.std.proofs.lemmas.Fmt.{decimal_injective}
use Rattle.std.proofs.lemmas.Bool.{cases_lt}
use Rattle.byte.specs.declared.byte.Byte.{Byte}
use Rattle.byte.specs.Bytes.{byte_symbol}
use Rattle.byte.specs.Laws.{same_byte, byte_numbering}
use Rattle.field.specs.Decimal.{number_of}
use Rattle.field.specs.declared.decimal.Decimal.{Decimal}
use Rattle.field.specs.declared.decimal.Decimal.TheVariants.{Zero, One, Two, Three, Four, Five, Six, Seven, Eight, Nine, Ten}
use Rattle.row_text.specs.Input.{glyph_of, symbol_byte}
use Rattle.text.specs.Numbers.{Spells}
use Rattle.symbols.specs.Words.{decimal_word, byte_word}

-- a decimal symbol's word is the one byte that writes it
pub one_glyph : (u : Decimal) → decimal_word u ≡ glyph_of u ∷ []
one_glyph u = elim (number_of u == 10) as (λ b. cond b (codes "X") ((48 + number_of u) ∷ []) ≡ cond b 88 (48 + number_of u) ∷ []) [ true ↦ refl | false ↦ refl ]

-- that byte writes it
glyph_read : (u : Decimal) → symbol_byte (glyph_of u) ≡ Some u
glyph_read Zero = refl
glyph_read One = refl
glyph_read Two = refl
glyph_read Three = refl
glyph_read Four = refl
glyph_read Five = refl
glyph_read Six = refl
glyph_read Seven = refl
glyph_read Eight = refl
glyph_read Nine = refl
glyph_read Ten = refl

-- no two symbols have one word
pub decimal_apart : (s t : Decimal) → decimal_word s ≡ decimal_word t → s ≡ t
decimal_apart s t e =
    let same : glyph_of s ≡ glyph_of t = ap (λ w. slice_index w 0) (sym (one_glyph s) ∙ e ∙ one_glyph t) in
    let some : Some s ≡ Some t = sym (glyph_read s) ∙ ap symbol_byte same ∙ glyph_read t in
    cc

pub byte_apart : (s t : Byte) → byte_word s ≡ byte_word t → s ≡ t
byte_apart s t e = same_byte s t (decimal_injective s.value t.value (omega (arith, s.small)) (omega (arith, t.small)) e)

-- the byte that a number word writes, where it writes one
pub reads_number : (bs : List ℕ) (n : ℕ) (r : Option Byte) → Spells bs n → r ≡ byte_symbol n → MatchOption r ((u : Byte) → bs ≢ byte_word u) (λ u. bs ≡ byte_word u)
reads_number bs n r said e =
    let P : Option Byte → Type 0 = λ o. MatchOption o ((u : Byte) → bs ≢ byte_word u) (λ u. bs ≡ byte_word u) in
    ⊎_elim
    (λ low. let found = byte_numbering.number_symbol n low in subst P (sym (e ∙ found.1)) (said.1 ∙ ap decimal (sym found.2)))
    (λ high. subst P (sym (e ∙ byte_numbering.none n high)) (λ u is. omega (arith, u.small, decimal_injective u.value n (omega (arith, u.small)) (omega (arith, said.0)) (sym is ∙ said.1))))
    (cases_lt n 256)
