-- What a field is, and what it is to number its symbols. Assumes nothing.
use Rattle.std.specs.Prelude.{◌≡◌, ℕ, ◌<◌, ◌≤◌, Some, None, Option, ◌≢◌}

-- the six operations of a field on the symbols F
pub record Operations (F : Type 0) : Type 0 where
  pub zero : F
  pub one : F
  pub sum : F → F → F
  pub difference : F → F → F
  pub product : F → F → F
  pub inverse : F → F

-- the laws that they keep
pub record FieldLaws {F : Type 0} (o : Operations F) : Type 0 where
  pub sum_comm : (u v : F) → o.sum u v ≡ o.sum v u
  pub sum_assoc : (u v w : F) → o.sum (o.sum u v) w ≡ o.sum u (o.sum v w)
  pub sum_zero : (u : F) → o.sum u o.zero ≡ u
  pub sub_add : (u v : F) → o.sum (o.difference u v) v ≡ u
  pub product_comm : (u v : F) → o.product u v ≡ o.product v u
  pub product_assoc : (u v w : F) → o.product (o.product u v) w ≡ o.product u (o.product v w)
  pub product_one : (u : F) → o.product u o.one ≡ u
  pub distributes : (u v w : F) → o.product u (o.sum v w) ≡ o.sum (o.product u v) (o.product u w)
  pub inverse_of : (u : F) → (u ≢ o.zero) → o.product u (o.inverse u) ≡ o.one
  pub inverse_zero : o.inverse o.zero ≡ o.zero
  pub differ : o.zero ≡ o.one → ⊥

-- the symbols are numbered 0, 1, .., size - 1; a larger number has no symbol
pub record Numbering {F : Type 0} (size : ℕ) (symbol : ℕ → Option F) (number : F → ℕ) : Type 0 where
  pub least : 2 ≤ size
  pub most : size ≤ 65536
  pub below : (u : F) → number u < size
  pub symbol_number : (u : F) → symbol (number u) ≡ Some u
  pub number_symbol : (n : ℕ) → n < size → (u : F) × (symbol n ≡ Some u) × (number u ≡ n)
  pub none : (n : ℕ) → size ≤ n → symbol n ≡ None
