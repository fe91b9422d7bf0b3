-- The value at x of the one polynomial of degree below k that has given values at k points, by Lagrange's formula.
use Rattle.std.specs.Prelude.{◌≡◌, ℕ, zero, suc, ◌<◌, cond, List, ◌==◌}
use Rattle.field.specs.Laws.{Operations}
use Rattle.row.specs.Polynomial.{value}

-- the sum and the product of f 0, .., f (n - 1)
abbrev pub sum_below : {F : Type 0} → Operations F → ℕ → (ℕ → F) → F
sum_below o zero f = o.zero
sum_below o (suc n) f = o.sum (sum_below o n f) (f n)

abbrev pub product_below : {F : Type 0} → Operations F → ℕ → (ℕ → F) → F
product_below o zero f = o.one
product_below o (suc n) f = o.product (product_below o n f) (f n)

-- x - point m, but one at m = l
abbrev pub factor : {F : Type 0} → Operations F → (ℕ → F) → ℕ → F → ℕ → F
factor o point l x m = cond (m == l) o.one (o.difference x (point m))

-- the product of x - point m over each m below k but l
abbrev pub others : {F : Type 0} → Operations F → (ℕ → F) → ℕ → ℕ → F → F
others o point k l x = product_below o k (factor o point l x)

-- one at point l, and zero at the k - 1 other points
abbrev pub basis : {F : Type 0} → Operations F → (ℕ → F) → ℕ → ℕ → F → F
basis o point k l x = o.product (others o point k l x) (o.inverse (others o point k l (point l)))

abbrev pub interpolate : {F : Type 0} → Operations F → (ℕ → F) → ℕ → (ℕ → F) → F → F
interpolate o point k given x = sum_below o k (λ l. o.product (given l) (basis o point k l x))

-- k points, each unlike the others
abbrev pub Apart : {F : Type 0} → (ℕ → F) → ℕ → Type 0
Apart point k = (i j : ℕ) → i < k → j < k → point i ≡ point j → i ≡ j

-- the polynomial p has these values at the first k points
abbrev pub Meets : {F : Type 0} → Operations F → (ℕ → F) → ℕ → (ℕ → F) → List F → Type 0
Meets o point k given p = (l : ℕ) → l < k → value o p (point l) ≡ given l
