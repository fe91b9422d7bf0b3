-- What a call on a vector's slice leaves in the vector. Assumes nothing.
use Rattle.std.proofs.Common.{◌≡◌, List, length, vec_items, vec_len, Vec, ap, ◌∙◌}
use Rattle.std.specs.Vec.{with_items}
use Rattle.std.proofs.lemmas.List.{with_items_is}

-- the vector's slice was lent, and came back as `after`
module _ {X Z : Type 0} (v : Vec X Z) (slice after : List X) (value : slice ≡ vec_items v) (long : length after ≡ length slice) (len : length slice ≡ vec_len v) where
  pub back : vec_items (with_items v after) ≡ after
  back = with_items_is v after (long ∙ len)

  pub as_long : length (vec_items (with_items v after)) ≡ length (vec_items v)
  as_long = ap length back ∙ long ∙ ap length value

  -- what holds of the slices as they are seen by f holds of the vectors
  pub seen : {M : Type 0} (f : List X → M) (g : M → M) → f after ≡ g (f slice) → f (vec_items (with_items v after)) ≡ g (f (vec_items v))
  seen f g h = ap f back ∙ h ∙ ap (λ l. g (f l)) value
