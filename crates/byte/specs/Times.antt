-- The product of bytes, reduced at each step, keeps the laws of a field. Assumes nothing.
use Rattle.std.specs.Prelude.{◌≡◌, ℕ, zero, suc, ◌+◌, ◌-◌, ◌*◌, ◌/◌, ◌%◌, ◌<◌, ◌≤◌, Bool, true, false, cond, ◌&&◌, ◌==◌, ◌≢◌, bit_xor, nat_lt, slice_index}
use Rattle.std.proofs.Math.Path.{refl}
use Rattle.std.proofs.Common.{sym, ap, ap₂, ◌∙◌, add-zero, suc-add, zero-add, add_comm, add_assoc, zero-mul, suc-mul, arith, lit<}
use Rattle.std.proofs.lemmas.Nat.{xor_comm, xor_block, xor_shr, xor_lt}
use Rattle.std.specs.Int.Bits.{xor_assoc, xor_zero_r}
use Rattle.std.proofs.lemmas.Bool.{cond-true, cond-false, eq-eqb, ne_eqb, ltb-true, eqb-true, and_parts, agree_below, agree_below_at}
use Rattle.byte.specs.Polynomial.{times_x, power}
use Rattle.byte.specs.Exponents.{exponents}

-- a b for b of n bits, reduced at each step: the sum of a x^i over the bits i of b
unfoldable pub times : ℕ → ℕ → ℕ → ℕ
times zero a b = 0
times (suc n) a b = bit_xor (cond (b % 2 == 0) 0 a) (times n (times_x a) (b / 2))

-- a^n
unfoldable pub to_the : ℕ → ℕ → ℕ
to_the zero a = 1
to_the (suc n) a = times 8 a (to_the n a)

small_test : ℕ → Bool
small_test a = nat_lt (times_x a) 256

one_test : ℕ → Bool
one_test b = times 8 1 b == b

small_table : agree_below small_test (λ _. true) 256 ≡ true
unfolding small_test times_x
small_table = refl

one_table : agree_below one_test (λ _. true) 256 ≡ true
unfolding one_test times times_x
one_table = refl

unfoldable pub exponent : ℕ → ℕ
exponent a = slice_index exponents a

exponent_test : ℕ → Bool
exponent_test a = (power (exponent (suc a)) == suc a) && nat_lt (exponent (suc a)) 255

exponent_table : agree_below exponent_test (λ _. true) 255 ≡ true
unfolding exponent_test exponent exponents power times_x
exponent_table = refl

pub times_x_lt : (a : ℕ) → a < 256 → times_x a < 256
unfolding small_test
times_x_lt a h = ltb-true (times_x a) 256 (agree_below_at small_test (λ _. true) 256 a small_table h)

one_times : (b : ℕ) → b < 256 → times 8 1 b ≡ b
unfolding one_test
one_times b h = eqb-true (times 8 1 b) b (agree_below_at one_test (λ _. true) 256 b one_table h)

-- times-x is linear

xor_left_comm : (a b c : ℕ) → bit_xor a (bit_xor b c) ≡ bit_xor b (bit_xor a c)
xor_left_comm a b c = sym (xor_assoc a b c) ∙ ap (λ t. bit_xor t c) (xor_comm a b) ∙ xor_assoc b a c

pub xor_middle : (a b c d : ℕ) → bit_xor (bit_xor a b) (bit_xor c d) ≡ bit_xor (bit_xor a c) (bit_xor b d)
xor_middle a b c d = xor_assoc a b (bit_xor c d) ∙ ap (bit_xor a) (xor_left_comm b c d) ∙ sym (xor_assoc a c (bit_xor b d))

pub xor_double : (a b : ℕ) → bit_xor a b * 2 ≡ bit_xor (a * 2) (b * 2)
xor_double a b = sym (simp add-zero at (xor_block 1 a b 0 0 (lit< tt) (lit< tt)))

xor_modulus : (u v : ℕ) → u < 2 → v < 2 → bit_xor u v * 0x11D ≡ bit_xor (u * 0x11D) (v * 0x11D)
xor_modulus zero zero h k = refl
xor_modulus zero (suc zero) h k = refl
xor_modulus (suc zero) zero h k = refl
xor_modulus (suc zero) (suc zero) h k = refl
xor_modulus zero (suc (suc v)) h k = absurd (omega arith)
xor_modulus (suc zero) (suc (suc v)) h k = absurd (omega arith)
xor_modulus (suc (suc u)) zero h k = absurd (omega arith)
xor_modulus (suc (suc u)) (suc v) h k = absurd (omega arith)

times_x_xor : (a b : ℕ) → a < 256 → b < 256 → times_x (bit_xor a b) ≡ bit_xor (times_x a) (times_x b)
unfolding times_x
times_x_xor a b ha hb =
    ap₂ bit_xor (xor_double a b) (ap (λ t. t * 0x11D) (xor_shr a b 7) ∙ xor_modulus (a / 128) (b / 128) (omega arith) (omega arith))
    ∙ xor_middle (a * 2) (b * 2) (a / 128 * 0x11D) (b / 128 * 0x11D)

-- times is linear in its first factor, and goes with times-x

cond_lt : (t : Bool) (a : ℕ) → a < 256 → cond t 0 a < 256
cond_lt true a h = lit< tt
cond_lt false a h = h

cond_xor : (t : Bool) (a b : ℕ) → cond t 0 (bit_xor a b) ≡ bit_xor (cond t 0 a) (cond t 0 b)
cond_xor true a b = refl
cond_xor false a b = refl

cond_x : (t : Bool) (a : ℕ) → cond t 0 (times_x a) ≡ times_x (cond t 0 a)
unfolding times_x
cond_x true a = refl
cond_x false a = refl

pub times_lt : (n a b : ℕ) → a < 256 → times n a b < 256
unfolding times
times_lt zero a b h = lit< tt
times_lt (suc n) a b h = xor_lt 8 _ _ (cond_lt (b % 2 == 0) a h) (times_lt n (times_x a) (b / 2) (times_x_lt a h))

times_xor : (n a b c : ℕ) → a < 256 → b < 256 → times n (bit_xor a b) c ≡ bit_xor (times n a c) (times n b c)
unfolding times
times_xor zero a b c ha hb = refl
times_xor (suc n) a b c ha hb =
    ap₂ bit_xor (cond_xor (c % 2 == 0) a b)
    (ap (λ t. times n t (c / 2)) (times_x_xor a b ha hb) ∙ times_xor n (times_x a) (times_x b) (c / 2) (times_x_lt a ha) (times_x_lt b hb))
    ∙ xor_middle (cond (c % 2 == 0) 0 a) (cond (c % 2 == 0) 0 b) (times n (times_x a) (c / 2)) (times n (times_x b) (c / 2))

times_times_x : (n a b : ℕ) → a < 256 → times n (times_x a) b ≡ times_x (times n a b)
unfolding times
times_times_x zero a b h = unfold times_x in refl
times_times_x (suc n) a b h =
    ap₂ bit_xor (cond_x (b % 2 == 0) a) (times_times_x n (times_x a) (b / 2) (times_x_lt a h))
    ∙ sym (times_x_xor _ _ (cond_lt (b % 2 == 0) a h) (times_lt n (times_x a) (b / 2) (times_x_lt a h)))

pub zero_times : (n b : ℕ) → times n 0 b ≡ 0
unfolding times times_x
zero_times zero b = refl
zero_times (suc n) b = ap₂ bit_xor (none (b % 2 == 0)) (zero_times n (b / 2))
  where
    none : (t : Bool) → ◌≡◌ {A = ℕ} (cond t 0 0) 0
    none true = refl
    none false = refl

pub times_zero : (n a : ℕ) → times n a 0 ≡ 0
unfolding times
times_zero zero a = refl
times_zero (suc n) a = times_zero n (times_x a)

-- products of powers of x

power_lt : (n : ℕ) → power n < 256
unfolding power
power_lt zero = lit< tt
power_lt (suc n) = times_x_lt (power n) (power_lt n)

pub power_times : (i j : ℕ) → times 8 (power i) (power j) ≡ power (i + j)
unfolding power
power_times zero j = one_times (power j) (power_lt j) ∙ ap power (sym (zero-add j))
power_times (suc i) j = times_times_x 8 (power i) (power j) (power_lt i) ∙ ap times_x (power_times i j) ∙ ap power (sym (suc-add i j))

-- each byte but 0 is a power of x

pub power_exponent : (a : ℕ) → a < 255 → power (exponent (suc a)) ≡ suc a
unfolding exponent_test
power_exponent a h = eqb-true (power (exponent (suc a))) (suc a) (and_parts _ _ (agree_below_at exponent_test (λ _. true) 255 a exponent_table h)).0

pub exponent_lt : (a : ℕ) → a < 255 → exponent (suc a) < 255
unfolding exponent_test
exponent_lt a h = ltb-true (exponent (suc a)) 255 (and_parts _ _ (agree_below_at exponent_test (λ _. true) 255 a exponent_table h)).1

-- the laws

pub exponents_times : (a b : ℕ) → a < 255 → b < 255 → times 8 (suc a) (suc b) ≡ power (exponent (suc a) + exponent (suc b))
exponents_times a b ha hb = sym (ap₂ (times 8) (power_exponent a ha) (power_exponent b hb)) ∙ power_times (exponent (suc a)) (exponent (suc b))

pub times_comm : (a b : ℕ) → a < 256 → b < 256 → times 8 a b ≡ times 8 b a
times_comm zero b ha hb = zero_times 8 b ∙ sym (times_zero 8 b)
times_comm (suc a) zero ha hb = times_zero 8 (suc a) ∙ sym (zero_times 8 (suc a))
times_comm (suc a) (suc b) ha hb =
    exponents_times a b (omega arith) (omega arith) ∙ ap power (add_comm (exponent (suc a)) (exponent (suc b))) ∙ sym (exponents_times b a (omega arith) (omega arith))

pub times_assoc : (a b c : ℕ) → a < 256 → b < 256 → c < 256 → times 8 (times 8 a b) c ≡ times 8 a (times 8 b c)
times_assoc zero b c ha hb hc = ap (λ t. times 8 t c) (zero_times 8 b) ∙ zero_times 8 c ∙ sym (zero_times 8 (times 8 b c))
times_assoc (suc a) zero c ha hb hc =
    ap (λ t. times 8 t c) (times_zero 8 (suc a)) ∙ zero_times 8 c ∙ sym (ap (times 8 (suc a)) (zero_times 8 c) ∙ times_zero 8 (suc a))
times_assoc (suc a) (suc b) zero ha hb hc =
    times_zero 8 (times 8 (suc a) (suc b)) ∙ sym (ap (times 8 (suc a)) (times_zero 8 (suc b)) ∙ times_zero 8 (suc a))
times_assoc (suc a) (suc b) (suc c) ha hb hc =
    let i = exponent (suc a) in
    let j = exponent (suc b) in
    let k = exponent (suc c) in
    let left : times 8 (times 8 (suc a) (suc b)) (suc c) ≡ power (i + j + k)
    = ap₂ (times 8) (exponents_times a b (omega arith) (omega arith)) (sym (power_exponent c (omega arith))) ∙ power_times (i + j) k in
    let right : times 8 (suc a) (times 8 (suc b) (suc c)) ≡ power (i + (j + k))
    = ap₂ (times 8) (sym (power_exponent a (omega arith))) (exponents_times b c (omega arith) (omega arith)) ∙ power_times i (j + k) in
    left ∙ ap power (add_assoc i j k) ∙ sym right

pub times_distributes : (a b c : ℕ) → a < 256 → b < 256 → c < 256 → times 8 a (bit_xor b c) ≡ bit_xor (times 8 a b) (times 8 a c)
times_distributes a b c ha hb hc =
    times_comm a (bit_xor b c) ha (xor_lt 8 b c hb hc) ∙ times_xor 8 b c a hb hc ∙ ap₂ bit_xor (times_comm b a hb ha) (times_comm c a hc ha)

pub times_one : (a : ℕ) → a < 256 → times 8 a 1 ≡ a
times_one a h = times_comm a 1 h (lit< tt) ∙ one_times a h

power_255 : power 255 ≡ 1
unfolding power times_x
power_255 = refl

-- powers of a power of x; those of 255 are one
to_the_power : (n i : ℕ) → to_the n (power i) ≡ power (n * i)
unfolding to_the power
to_the_power zero i = ap power (sym (zero-mul i))
to_the_power (suc n) i =
    ap (times 8 (power i)) (to_the_power n i) ∙ power_times i (n * i) ∙ ap power (omega (arith, suc-mul n i))

power_round : (n : ℕ) → power (n * 255) ≡ 1
unfolding power
power_round zero = ap power (zero-mul 255)
power_round (suc n) =
    ap power (suc-mul n 255) ∙ sym (power_times (n * 255) 255) ∙ ap₂ (times 8) (power_round n) power_255 ∙ one_times 1 (lit< tt)

-- a^254 is what a logarithm gives
pub inverse_by : (a i : ℕ) → power i ≡ a → i < 255 → to_the 254 a ≡ power (255 - i)
inverse_by a i e h =
    let up : 254 * i + 255 ≡ i * 255 + (255 - i) = omega arith in
    let round : (m : ℕ) → power m ≡ power (m + 255)
    = λ m. sym (sym (power_times m 255) ∙ ap (times 8 (power m)) power_255 ∙ times_one (power m) (power_lt m)) in
    ap (to_the 254) (sym e) ∙ to_the_power 254 i ∙ round (254 * i) ∙ ap power up
    ∙ sym (power_times (i * 255) (255 - i)) ∙ ap (λ t. times 8 t (power (255 - i))) (power_round i) ∙ one_times (power (255 - i)) (power_lt (255 - i))

pub zero_to_the : (n : ℕ) → to_the (suc n) 0 ≡ 0
unfolding to_the
zero_to_the n = zero_times 8 (to_the n 0)

pub to_the_lt : (n a : ℕ) → a < 256 → to_the n a < 256
unfolding to_the
to_the_lt zero a h = lit< tt
to_the_lt (suc n) a h = times_lt 8 a (to_the n a) h

pub times_inverse : (a : ℕ) → a < 256 → (a ≢ 0) → times 8 a (to_the 254 a) ≡ 1
times_inverse zero h n = absurd (n refl)
times_inverse (suc a) h n =
    let i = exponent (suc a) in
    let e : i + (255 - i) ≡ 255 = omega (arith, exponent_lt a (omega arith)) in
    ap₂ (times 8) (sym (power_exponent a (omega arith))) (inverse_by (suc a) i (power_exponent a (omega arith)) (exponent_lt a (omega arith))) ∙ power_times i (255 - i) ∙ ap power e ∙ power_255

-- a turn of a loop over the bits

pub times_x_low : (a : ℕ) → a < 128 → a * 2 ≡ times_x a
unfolding times_x
times_x_low a h =
    let z : a / 128 ≡ 0 = omega arith in sym (ap (λ t. bit_xor (a * 2) (t * 0x11D)) z ∙ xor_zero_r (a * 2))

pub times_x_high : (a : ℕ) → 128 ≤ a → a < 256 → bit_xor (a * 2) 0x11D ≡ times_x a
unfolding times_x
times_x_high a l h = let e : a / 128 ≡ 1 = omega arith in sym (ap (λ t. bit_xor (a * 2) (t * 0x11D)) e)

pub bit_one : (n a b : ℕ) → (b % 2 ≢ 0) → times (suc n) a b ≡ bit_xor a (times n (times_x a) (b / 2))
unfolding times
bit_one n a b d = ap (λ t. bit_xor t (times n (times_x a) (b / 2))) (cond-false (b % 2 == 0) 0 a (ne_eqb (b % 2) 0 d))

pub bit_zero : (n a b : ℕ) → b % 2 ≡ 0 → times (suc n) a b ≡ times n (times_x a) (b / 2)
unfolding times
bit_zero n a b e = ap (λ t. bit_xor t (times n (times_x a) (b / 2))) (cond-true (b % 2 == 0) 0 a (eq-eqb (b % 2) 0 e))
