-- Bytes keep the laws of a field, and their numbers number them. Assumes nothing.
use Rattle.std.specs.Prelude.{◌≡◌, ℕ, ◌<◌, ◌≤◌, Some, None, bit_xor, nat_lt, refl}
use Rattle.std.proofs.Common.{sym, ap, ◌∙◌, arith, lit<, lit≤}
use mathlib.Core.HLevel.{is_prop→PathP}
use Rattle.std.proofs.Math.Bridge.{le_prop}
use Rattle.std.proofs.lemmas.Nat.{xor_comm, xor_lt}
use Rattle.std.specs.Int.Bits.{xor_assoc, xor_self, xor_zero_r}
use Rattle.std.proofs.lemmas.Bool.{cond-true, cond-false, lt-ltb, le-ltb}
use Rattle.field.specs.Laws.{FieldLaws, Numbering}
use Rattle.byte.specs.declared.byte.Byte.{Byte}
use Rattle.byte.specs.Bytes.{byte, byte_product, byte_inverse, byte_operations, byte_symbol, byte_number}
use Rattle.byte.specs.Remainder.{product_lt}
use Rattle.byte.specs.Products.{product_comm, product_assoc, product_distributes, product_one, product_inverse, inverse_lt, inverse_zero}

-- bytes are equal if their numbers are
pub same_byte : (a b : Byte) → a.value ≡ b.value → a ≡ b
same_byte a b e = λ i. record { value = e i; small = is_prop→PathP (λ j. e j < 256) (λ j. le_prop) a.small b.small i }

pub byte_value : (n : ℕ) → n < 256 → (byte n).value ≡ n
unfolding byte
byte_value n h = omega arith

pub is_byte : (a : Byte) (n : ℕ) → a.value ≡ n → a ≡ byte n
is_byte a n e = same_byte a (byte n) (e ∙ sym (byte_value n (let h = a.small in omega arith)))

module _ (a b : Byte) where
  pub sum_value : (byte_operations.sum a b).value ≡ bit_xor a.value b.value
  sum_value = byte_value _ (xor_lt 8 a.value b.value a.small b.small)

  pub product_value : (byte_operations.product a b).value ≡ byte_product a.value b.value
  product_value = byte_value _ (product_lt a.value b.value)

pub inverse_value : (a : Byte) → (byte_operations.inverse a).value ≡ byte_inverse a.value
inverse_value a = byte_value _ (inverse_lt a.value a.small)

pub byte_laws : FieldLaws byte_operations
byte_laws = record {
  sum_comm = λ a b. ap byte (xor_comm a.value b.value);
  sum_assoc = λ a b c. ap byte (ap (λ t. bit_xor t c.value) (sum_value a b) ∙ xor_assoc a.value b.value c.value ∙ sym (ap (bit_xor a.value) (sum_value b c)));
  sum_zero = λ a. sym (is_byte a _ (sym (ap (bit_xor a.value) (byte_value 0 (lit< tt)) ∙ xor_zero_r a.value)));
  sub_add = λ a b. sym (is_byte a _ (sym (ap (λ t. bit_xor t b.value) (sum_value a b) ∙ xor_assoc a.value b.value b.value ∙ ap (bit_xor a.value) (xor_self b.value) ∙ xor_zero_r a.value)));
  product_comm = λ a b. ap byte (product_comm a.value b.value a.small b.small);
  product_assoc = λ a b c.
      ap byte (ap (λ t. byte_product t c.value) (product_value a b) ∙ product_assoc a.value b.value c.value a.small b.small c.small ∙ sym (ap (byte_product a.value) (product_value b c)));
  product_one = λ a. sym (is_byte a _ (sym (ap (byte_product a.value) (byte_value 1 (lit< tt)) ∙ product_one a.value a.small)));
  distributes = λ a b c.
      ap byte (ap (byte_product a.value) (sum_value b c) ∙ product_distributes a.value b.value c.value a.small b.small c.small
      ∙ sym (ap (λ t. bit_xor t (byte_operations.product a c).value) (product_value a b) ∙ ap (bit_xor (byte_product a.value b.value)) (product_value a c)));
  inverse_of = λ a n. ap byte (ap (byte_product a.value) (inverse_value a) ∙ product_inverse a.value a.small (λ e. n (is_byte a 0 e)));
  inverse_zero = ap byte (ap byte_inverse (byte_value 0 (lit< tt)) ∙ inverse_zero);
  differ = λ e. let z : ◌≡◌ {A = ℕ} 0 1 = sym (byte_value 0 (lit< tt)) ∙ ap (λ (b : Byte). b.value) e ∙ byte_value 1 (lit< tt) in omega arith;
}

pub symbol_low : (n : ℕ) → n < 256 → byte_symbol n ≡ Some (byte n)
symbol_low n h = cond-true (nat_lt n 256) (Some (byte n)) None (lt-ltb n 256 h)

pub symbol_high : (n : ℕ) → 256 ≤ n → byte_symbol n ≡ None
symbol_high n h = cond-false (nat_lt n 256) (Some (byte n)) None (le-ltb n 256 h)

pub byte_numbering : Numbering 256 byte_symbol byte_number
byte_numbering = record {
  least = lit≤ tt;
  most = lit≤ tt;
  below = λ a. a.small;
  symbol_number = λ a. symbol_low a.value a.small ∙ ap Some (sym (is_byte a a.value refl));
  number_symbol = λ n h. (byte n, symbol_low n h, byte_value n h);
  none = symbol_high;
}
