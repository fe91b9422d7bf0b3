-- Rows of k records: the records of a k by k table. Assumes nothing.
use Rattle.std.proofs.Common.{◌≡◌, ℕ, ◌+◌, ◌*◌, ◌/◌, ◌%◌, ◌<◌, sym, ap, ◌∙◌, mul_comm, arith}
use Rattle.std.proofs.lemmas.Nat.{mul-add-lt, div-mul-add, mod-mul-add}

pub cell_below : (k r m : ℕ) → r < k → m < k → k * r + m < k * k
cell_below k r m a b = omega (arith, mul-add-lt r k m k a b, mul_comm k r)

cell_row : (k r m : ℕ) → m < k → (k * r + m) / k ≡ r
cell_row k r m h = ap (λ n. (n + m) / k) (mul_comm k r) ∙ div-mul-add r k m h

cell_node : (k r m : ℕ) → m < k → (k * r + m) % k ≡ m
cell_node k r m h = ap (λ n. (n + m) % k) (mul_comm k r) ∙ mod-mul-add r k m h

pub cell_apart : (k r m s n : ℕ) → m < k → n < k → k * r + m ≡ k * s + n → (r ≡ s) × (m ≡ n)
cell_apart k r m s n a b e =
    (sym (cell_row k r m a) ∙ (ap (λ c. c / k) e ∙ cell_row k s n b), sym (cell_node k r m a) ∙ (ap (λ c. c % k) e ∙ cell_node k s n b))
