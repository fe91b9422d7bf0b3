-- Remainders by the modulus: there is one, it is the only one, and the product reduced at each step is the one of the
-- product of the polynomials. Assumes nothing.
use Rattle.std.specs.Prelude.{◌≡◌, ℕ, zero, suc, ◌+◌, ◌*◌, ◌/◌, ◌%◌, ◌^◌, ◌<◌, ◌≤◌, Bool, true, false, cond, ◌==◌, ◌≢◌, bit_xor, refl}
use Rattle.std.proofs.Common.{sym, ap, ap₂, ◌∙◌, ⊎_elim, arith, lit<}
use Rattle.std.proofs.Math.Path.{subst}
use Rattle.std.specs.Int.Bits.{xor_assoc, xor_self, xor_zero_r, xor_zero_l, xor_shifted}
use Rattle.std.proofs.Math.Dec.{lit≤}
use Rattle.std.proofs.lemmas.Nat.{pow_pos, pow_below, shl_below, shr_below, xor_comm, xor_lt}
use Rattle.std.proofs.lemmas.Bool.{cases_eq, cases_lt}
use Rattle.byte.specs.Polynomial.{modulus, multiply, times_x, Congruent, Remainder, TheRemainder, remainder}
use Rattle.byte.specs.Bytes.{byte_product}
use Rattle.byte.specs.Times.{times, xor_middle, xor_double, times_x_lt, times_lt}

cond_xor : (t : Bool) (a b : ℕ) → cond t 0 (bit_xor a b) ≡ bit_xor (cond t 0 a) (cond t 0 b)
cond_xor true a b = refl
cond_xor false a b = refl

cond_double : (t : Bool) (a : ℕ) → cond t 0 (a * 2) ≡ cond t 0 a * 2
cond_double true a = refl
cond_double false a = refl

multiply_xor : (n a b c : ℕ) → multiply n (bit_xor a b) c ≡ bit_xor (multiply n a c) (multiply n b c)
unfolding multiply
multiply_xor zero a b c = refl
multiply_xor (suc n) a b c =
    ap₂ bit_xor (cond_xor (c % 2 == 0) a b) (ap (λ t. multiply n t (c / 2)) (xor_double a b) ∙ multiply_xor n (a * 2) (b * 2) (c / 2))
    ∙ xor_middle (cond (c % 2 == 0) 0 a) (cond (c % 2 == 0) 0 b) (multiply n (a * 2) (c / 2)) (multiply n (b * 2) (c / 2))

multiply_double : (n a c : ℕ) → multiply n (a * 2) c ≡ multiply n a c * 2
unfolding multiply
multiply_double zero a c = refl
multiply_double (suc n) a c =
    ap₂ bit_xor (cond_double (c % 2 == 0) a) (multiply_double n (a * 2) (c / 2)) ∙ sym (xor_double (cond (c % 2 == 0) 0 a) (multiply n (a * 2) (c / 2)))

congruent_xor : (u v w z : ℕ) → Congruent u v → Congruent w z → Congruent (bit_xor u w) (bit_xor v z)
congruent_xor u v w z (q, e) (r, f) =
    (bit_xor q r, ap₂ bit_xor e f ∙ xor_middle v (multiply 9 q modulus) z (multiply 9 r modulus) ∙ ap (bit_xor (bit_xor v z)) (sym (multiply_xor 9 q r modulus)))

congruent_double : (u v : ℕ) → Congruent u v → Congruent (u * 2) (v * 2)
congruent_double u v (q, e) =
    (q * 2, ap (λ t. t * 2) e ∙ xor_double v (multiply 9 q modulus) ∙ ap (bit_xor (v * 2)) (sym (multiply_double 9 q modulus)))

congruent_trans : (u v w : ℕ) → Congruent u v → Congruent v w → Congruent u w
congruent_trans u v w (q, e) (r, f) =
    (bit_xor r q, e ∙ ap (λ t. bit_xor t (multiply 9 q modulus)) f ∙ xor_assoc w (multiply 9 r modulus) (multiply 9 q modulus) ∙ ap (bit_xor w) (sym (multiply_xor 9 r q modulus)))

congruent_same : (u : ℕ) → Congruent u u
unfolding multiply
congruent_same u = (0, sym (xor_zero_r u))

once : (u : ℕ) → u < 2 → multiply 9 u modulus ≡ u * modulus
unfolding multiply
once zero h = refl
once (suc zero) h = refl
once (suc (suc u)) h = absurd (omega arith)

congruent_x : (a : ℕ) → a < 256 → Congruent (a * 2) (times_x a)
unfolding times_x
congruent_x a h =
    let m = a / 128 * modulus in (
      a / 128,
      sym (ap (bit_xor (times_x a)) (once (a / 128) (omega arith)) ∙ xor_assoc (a * 2) m m ∙ ap (bit_xor (a * 2)) (xor_self m) ∙ xor_zero_r (a * 2)),
    )

congruent_cond : (t : Bool) (u v : ℕ) → Congruent u v → Congruent (cond t 0 u) (cond t 0 v)
congruent_cond true u v h = congruent_same 0
congruent_cond false u v h = h

congruent_times : (n a r b : ℕ) → r < 256 → Congruent a r → Congruent (multiply n a b) (times n r b)
unfolding multiply times
congruent_times zero a r b h c = congruent_same 0
congruent_times (suc n) a r b h c =
    congruent_xor (cond (b % 2 == 0) 0 a) (cond (b % 2 == 0) 0 r) (multiply n (a * 2) (b / 2)) (times n (times_x r) (b / 2)) (congruent_cond (b % 2 == 0) a r c)
    (congruent_times n (a * 2) (times_x r) (b / 2) (times_x_lt r h) (congruent_trans (a * 2) (r * 2) (times_x r) (congruent_double a r c) (congruent_x r h)))

-- there is a remainder

split : (p : ℕ) → bit_xor (p / 2 * 2) (p % 2) ≡ p
split p = xor_shifted (p / 2) 1 (p % 2) (omega arith) ∙ omega arith

remainder_lt : (n p : ℕ) → remainder n p < 256
unfolding remainder
remainder_lt zero p = lit< tt
remainder_lt (suc n) p = xor_lt 8 (times_x (remainder n (p / 2))) (p % 2) (times_x_lt (remainder n (p / 2)) (remainder_lt n (p / 2))) (omega arith)

congruent_remainder : (n p : ℕ) → p < 2 ^ n → Congruent p (remainder n p)
unfolding remainder
congruent_remainder zero p h = let z : p ≡ 0 = omega arith in subst (λ t. Congruent t 0) (sym z) (congruent_same 0)
congruent_remainder (suc n) p h =
    let r = remainder n (p / 2) in
    let one_more : suc n ≡ n + 1 = omega arith in
    let c = congruent_remainder n (p / 2) (shr_below p n 1 (subst (λ k. p < 2 ^ k) one_more h)) in
    let doubled = congruent_trans (p / 2 * 2) (r * 2) (times_x r) (congruent_double (p / 2) r c) (congruent_x r (remainder_lt n (p / 2))) in
    subst (λ t. Congruent t (bit_xor (times_x r) (p % 2))) (split p)
    (congruent_xor (p / 2 * 2) (times_x r) (p % 2) (p % 2) doubled (congruent_same (p % 2)))

-- there is only one: a multiple of the modulus, other than 0, has a degree of at least 8

xor_back : (a b : ℕ) → bit_xor a (bit_xor a b) ≡ b
xor_back a b = sym (xor_assoc a a b) ∙ ap (λ t. bit_xor t b) (xor_self a) ∙ xor_zero_l b

xor_high : (a b : ℕ) → a < 512 → 512 ≤ b → 512 ≤ bit_xor b a
xor_high a b low high =
    ⊎_elim
    (λ below. let l : b < 512 = subst (λ t. t < 512) (ap (bit_xor a) (xor_comm b a) ∙ xor_back a b) (xor_lt 9 a (bit_xor b a) low below) in absurd (omega arith))
    (λ above. above)
    (cases_lt (bit_xor b a) 512)

multiple_split : (q : ℕ) → multiply 9 q modulus ≡ bit_xor (multiply 9 (q / 2) modulus * 2) (q % 2 * modulus)
multiple_split q =
    ap (λ t. multiply 9 t modulus) (sym (split q)) ∙ multiply_xor 9 (q / 2 * 2) (q % 2) modulus
    ∙ ap₂ bit_xor (multiply_double 9 (q / 2) modulus) (once (q % 2) (omega arith))

multiple_high : (n q : ℕ) → q ≤ n → (q ≢ 0) → 256 ≤ multiply 9 q modulus
multiple_high zero q h d = absurd (d (omega arith))
multiple_high (suc n) q h d =
    ⊎_elim
    (λ e. let one : q ≡ 1 = omega arith in subst (λ t. 256 ≤ multiply 9 t modulus) (sym one) (unfold multiply in lit≤ tt))
    (λ e.
    let up = multiple_high n (q / 2) (omega arith) e in
    let high = xor_high (q % 2 * modulus) (multiply 9 (q / 2) modulus * 2) (omega arith) (omega arith) in
    let at_least : 512 ≤ multiply 9 q modulus = subst (λ t. 512 ≤ t) (sym (multiple_split q)) high in omega arith)
    (cases_eq (q / 2) 0)

apart : (p r s q t : ℕ) → p ≡ bit_xor r (multiply 9 q modulus) → p ≡ bit_xor s (multiply 9 t modulus) → bit_xor s r ≡ multiply 9 (bit_xor q t) modulus
apart p r s q t e f =
    let a = multiply 9 q modulus in
    let b = multiply 9 t modulus in
    sym (xor_zero_r (bit_xor s r)) ∙ ap (bit_xor (bit_xor s r)) (sym (xor_self b)) ∙ xor_middle s r b b
    ∙ ap (λ u. bit_xor u (bit_xor r b)) (sym f ∙ e) ∙ xor_middle r a r b
    ∙ ap (λ u. bit_xor u (bit_xor a b)) (xor_self r) ∙ xor_zero_l (bit_xor a b) ∙ sym (multiply_xor 9 q t modulus)

multiple_of_zero : multiply 9 0 modulus ≡ 0
unfolding multiply
multiple_of_zero = refl

pub only_remainder : (p r s : ℕ) → Remainder p r → Remainder p s → s ≡ r
only_remainder p r s x y =
    let q = x.congruent.0 in
    let t = y.congruent.0 in
    let e = apart p r s q t x.congruent.1 y.congruent.1 in
    let low : multiply 9 (bit_xor q t) modulus < 256 = subst (λ u. u < 256) e (xor_lt 8 s r y.small x.small) in
    ⊎_elim
    (λ z.
    let none : bit_xor s r ≡ 0 = e ∙ ap (λ u. multiply 9 u modulus) z ∙ multiple_of_zero in
    sym (xor_back r s) ∙ ap (bit_xor r) (xor_comm r s ∙ none) ∙ xor_zero_r r)
    (λ z. let high = multiple_high (bit_xor q t) (bit_xor q t) (omega arith) z in absurd (omega arith))
    (cases_eq (bit_xor q t) 0)

-- the remainder of a product

cond_low : (t : Bool) (p m : ℕ) → p < m → cond t 0 p < m
cond_low true p m h = omega arith
cond_low false p m h = h

multiply_lt : (n m p q : ℕ) → p < 2 ^ m → multiply n p q < 2 ^ (m + n)
unfolding multiply
multiply_lt zero m p q h = pow_pos (m + 0)
multiply_lt (suc n) m p q h =
    let one_more : m + 1 ≡ suc m = omega arith in
    let doubled : p * 2 < 2 ^ suc m = subst (λ k. p * 2 < 2 ^ k) one_more (shl_below p m 1 h) in
    let more = pow_below m (m + suc n) (omega arith) in
    xor_lt (m + suc n) (cond (q % 2 == 0) 0 p) (multiply n (p * 2) (q / 2)) (cond_low (q % 2 == 0) p (2 ^ (m + suc n)) (omega arith))
    (subst (λ k. multiply n (p * 2) (q / 2) < 2 ^ k) (omega arith) (multiply_lt n (suc m) (p * 2) (q / 2) doubled))

product_remainder : (a b : ℕ) → a < 256 → Remainder (multiply 8 a b) (byte_product a b)
unfolding byte_product
product_remainder a b h =
    record { small = remainder_lt 16 (multiply 8 a b); congruent = congruent_remainder 16 (multiply 8 a b) (multiply_lt 8 8 a b h) }

times_remainder : (a b : ℕ) → a < 256 → Remainder (multiply 8 a b) (times 8 a b)
times_remainder a b h = record { small = times_lt 8 a b h; congruent = congruent_times 8 a a b h (congruent_same a) }

pub the_remainder : (a b : ℕ) → a < 256 → TheRemainder (multiply 8 a b) (byte_product a b)
the_remainder a b h =
    record { is = product_remainder a b h; only = λ s. only_remainder (multiply 8 a b) (byte_product a b) s (product_remainder a b h) }

pub product_times : (a b : ℕ) → a < 256 → byte_product a b ≡ times 8 a b
product_times a b h = only_remainder (multiply 8 a b) (times 8 a b) (byte_product a b) (times_remainder a b h) (product_remainder a b h)

pub product_lt : (a b : ℕ) → byte_product a b < 256
unfolding byte_product
product_lt a b = remainder_lt 16 (multiply 8 a b)
