-- The decimal symbols keep the laws of a field, and their numbers are a numbering. Assumes nothing.
use Rattle.std.specs.Prelude.{◌≡◌, ℕ, zero, suc, ◌<◌, ◌≤◌, Bool, true, false, Some, None, Option, ◌==◌, ◌≢◌, nat_eq, refl}
use Rattle.std.proofs.Common.{sym, ap, subst, ◌∙◌, arith, lit<, lit≤}
use Rattle.std.proofs.lemmas.Bool.{false≢true, eqb-true, agree_below, agree_below_at}
use Rattle.field.specs.Laws.{FieldLaws, Numbering}
use Rattle.field.specs.declared.decimal.Decimal.{Decimal}
use Rattle.field.specs.declared.decimal.Decimal.TheVariants.{Zero, One, Two, Three, Four, Five, Six, Seven, Eight, Nine, Ten}
use Rattle.field.specs.Decimal.{number_of, symbol_of, modulo, decimal}

pub number_below : (u : Decimal) → number_of u < 11
number_below Zero = lit< tt
number_below One = lit< tt
number_below Two = lit< tt
number_below Three = lit< tt
number_below Four = lit< tt
number_below Five = lit< tt
number_below Six = lit< tt
number_below Seven = lit< tt
number_below Eight = lit< tt
number_below Nine = lit< tt
number_below Ten = lit< tt

pub symbol_number : (u : Decimal) → symbol_of (number_of u) ≡ Some u
symbol_number Zero = refl
symbol_number One = refl
symbol_number Two = refl
symbol_number Three = refl
symbol_number Four = refl
symbol_number Five = refl
symbol_number Six = refl
symbol_number Seven = refl
symbol_number Eight = refl
symbol_number Nine = refl
symbol_number Ten = refl

modulo_number : (u : Decimal) → modulo (number_of u) ≡ u
modulo_number Zero = refl
modulo_number One = refl
modulo_number Two = refl
modulo_number Three = refl
modulo_number Four = refl
modulo_number Five = refl
modulo_number Six = refl
modulo_number Seven = refl
modulo_number Eight = refl
modulo_number Nine = refl
modulo_number Ten = refl

-- a test at each symbol, and so an equation between symbols that holds at each of the eleven

abbrev every : (Decimal → Bool) → Bool
every f = agree_below (λ n. f (modulo n)) (λ _. true) 11

at_symbol : (f : Decimal → Bool) → every f ≡ true → (u : Decimal) → f u ≡ true
at_symbol f t u =
    subst (λ e. f e ≡ true) (modulo_number u) (agree_below_at (λ n. f (modulo n)) (λ _. true) 11 (number_of u) t (number_below u))

abbrev same : Decimal → Decimal → Bool
same u v = number_of u == number_of v

same_symbol : (u v : Decimal) → same u v ≡ true → u ≡ v
same_symbol u v t = sym (modulo_number u) ∙ ap modulo (eqb-true (number_of u) (number_of v) t) ∙ modulo_number v

law₁ : (f g : Decimal → Decimal) → every (λ u. same (f u) (g u)) ≡ true → (u : Decimal) → f u ≡ g u
law₁ f g t u = same_symbol (f u) (g u) (at_symbol (λ u. same (f u) (g u)) t u)

law₂ : (f g : Decimal → Decimal → Decimal) → every (λ u. every (λ v. same (f u v) (g u v))) ≡ true → (u v : Decimal) → f u v ≡ g u v
law₂ f g t u = law₁ (f u) (g u) (at_symbol (λ u. every (λ v. same (f u v) (g u v))) t u)

law₃ : (f g : Decimal → Decimal → Decimal → Decimal) → every (λ u. every (λ v. every (λ w. same (f u v w) (g u v w)))) ≡ true → (u v w : Decimal) → f u v w ≡ g u v w
law₃ f g t u = law₂ (f u) (g u) (at_symbol (λ u. every (λ v. every (λ w. same (f u v w) (g u v w)))) t u)

module _ where
  open decimal use {zero as 𝟘, one as 𝟙, sum as ◌⊕◌, product as ◌⊗◌, difference as ◌⊖◌, inverse}

  infixl 60 ◌⊕◌
  infixl 60 ◌⊖◌
  infixl 70 ◌⊗◌
  inverted : (u : Decimal) → (u ≢ Zero) → u ⊗ inverse u ≡ One
  inverted Zero n = absurd (n refl)
  inverted One n = refl
  inverted Two n = refl
  inverted Three n = refl
  inverted Four n = refl
  inverted Five n = refl
  inverted Six n = refl
  inverted Seven n = refl
  inverted Eight n = refl
  inverted Nine n = refl
  inverted Ten n = refl

  pub decimal_laws : FieldLaws decimal
  decimal_laws = record {
    sum_comm = law₂ (λ u v. u ⊕ v) (λ u v. v ⊕ u) refl;
    sum_assoc = law₃ (λ u v w. (u ⊕ v) ⊕ w) (λ u v w. u ⊕ (v ⊕ w)) refl;
    sum_zero = law₁ (λ u. u ⊕ 𝟘) (λ u. u) refl;
    sub_add = law₂ (λ u v. (u ⊖ v) ⊕ v) (λ u v. u) refl;
    product_comm = law₂ (λ u v. u ⊗ v) (λ u v. v ⊗ u) refl;
    product_assoc = law₃ (λ u v w. (u ⊗ v) ⊗ w) (λ u v w. u ⊗ (v ⊗ w)) refl;
    product_one = law₁ (λ u. u ⊗ 𝟙) (λ u. u) refl;
    distributes = law₃ (λ u v w. u ⊗ (v ⊕ w)) (λ u v w. u ⊗ v ⊕ u ⊗ w) refl;
    inverse_of = inverted;
    inverse_zero = refl;
    differ = λ e. let z : ◌≡◌ {A = ℕ} 0 1 = ap number_of e in omega arith;
  }

number_modulo : (n : ℕ) → n < 11 → number_of (modulo n) ≡ n
number_modulo n h = eqb-true (number_of (modulo n)) n (agree_below_at (λ n. nat_eq (number_of (modulo n)) n) (λ _. true) 11 n refl h)

abbrev found : Option Decimal → Decimal → Bool
found (Some u) v = same u v
found None v = false

found_some : (o : Option Decimal) (v : Decimal) → found o v ≡ true → o ≡ Some v
found_some (Some u) v t = ap Some (same_symbol u v t)
found_some None v t = absurd (false≢true t)

symbol_below : (n : ℕ) → n < 11 → symbol_of n ≡ Some (modulo n)
symbol_below n h =
    found_some (symbol_of n) (modulo n) (agree_below_at (λ n. found (symbol_of n) (modulo n)) (λ _. true) 11 n refl h)

no_symbol : (n : ℕ) → 11 ≤ n → symbol_of n ≡ None
no_symbol (suc (suc (suc (suc (suc (suc (suc (suc (suc (suc (suc n))))))))))) h = refl
no_symbol (suc (suc (suc (suc (suc (suc (suc (suc (suc (suc zero)))))))))) h = absurd (omega arith)
no_symbol (suc (suc (suc (suc (suc (suc (suc (suc (suc zero))))))))) h = absurd (omega arith)
no_symbol (suc (suc (suc (suc (suc (suc (suc (suc zero)))))))) h = absurd (omega arith)
no_symbol (suc (suc (suc (suc (suc (suc (suc zero))))))) h = absurd (omega arith)
no_symbol (suc (suc (suc (suc (suc (suc zero)))))) h = absurd (omega arith)
no_symbol (suc (suc (suc (suc (suc zero))))) h = absurd (omega arith)
no_symbol (suc (suc (suc (suc zero)))) h = absurd (omega arith)
no_symbol (suc (suc (suc zero))) h = absurd (omega arith)
no_symbol (suc (suc zero)) h = absurd (omega arith)
no_symbol (suc zero) h = absurd (omega arith)
no_symbol zero h = absurd (omega arith)

pub decimal_numbering : Numbering 11 symbol_of number_of
decimal_numbering = record {
  least = lit≤ tt;
  most = lit≤ tt;
  below = number_below;
  symbol_number = symbol_number;
  number_symbol = λ n h. (modulo n, symbol_below n h, number_modulo n h);
  none = no_symbol;
}
