-- The weight of a data symbol at a place. Assumes nothing.
use Rattle.std.proofs.Common.{◌≡◌, ℕ, zero, suc, ◌+◌, ◌<◌, ◌≤◌, cond, ◌&&◌, eqb, ltb, leb, sym, refl, ap, ◌∙◌, ap₂, arith}
use Rattle.std.proofs.lemmas.Bool.{cond-true, cond-false, and_from, and_left, and_right, eq-eqb, ne_eqb, le-leb, lt-leb, lt-ltb, le-ltb}
use Rattle.field.specs.Laws.{Operations}
use Rattle.row.specs.Interpolation.{product_below, others, basis}
use Rattle.array.specs.declared.parameters.Parameters.{Parameters}
use Rattle.array.specs.Layout.{skip}
use Rattle.access.specs.Put.{put_weight}

module _ {F : Type 0} (o : Operations F) where
  -- the row rule goes by the first k points alone
  product_as : (n : ℕ) (f g : ℕ → F) → ((m : ℕ) → m < n → f m ≡ g m) → product_below o n f ≡ product_below o n g
  product_as zero f g h = refl
  product_as (suc n) f g h = ap₂ o.product (product_as n f g (λ m b. h m (omega arith))) (h n (omega arith))

  others_as : (point point' : ℕ → F) (k l : ℕ) (x : F) → ((m : ℕ) → m < k → point m ≡ point' m) → others o point k l x ≡ others o point' k l x
  others_as point point' k l x h = product_as k _ _ (λ m b. ap (λ t. cond (eqb m l) o.one (o.difference x t)) (h m b))

  pub basis_as : (point point' : ℕ → F) (k l : ℕ) (x : F) → l < k → ((m : ℕ) → m < k → point m ≡ point' m) → basis o point k l x ≡ basis o point' k l x
  basis_as point point' k l x b h =
      ap₂ o.product (others_as point point' k l x h) (ap o.inverse (others_as point point' k l (point l) h ∙ ap (others o point' k l) (h l b)))

  module _ (symbol : ℕ → F) (p : Parameters) (i j r m : ℕ) where
    pub weight_rule : r ≡ i → p.k ≤ m → m < p.k + p.a → put_weight o symbol p i j r m ≡ basis o symbol p.k j (symbol m)
    unfolding put_weight
    weight_rule e a b =
        cond-true (eqb r i && (leb p.k m && ltb m (p.k + p.a))) _ _
        (and_from (eqb r i) (leb p.k m && ltb m (p.k + p.a)) (eq-eqb r i e) (and_from (leb p.k m) (ltb m (p.k + p.a)) (le-leb p.k m a) (lt-ltb m (p.k + p.a) b)))

    pub weight_row : (r ≡ i → ⊥) → put_weight o symbol p i j r m ≡ o.one
    unfolding put_weight
    weight_row n = cond-false (eqb r i && (leb p.k m && ltb m (p.k + p.a))) _ _ (and_left (eqb r i) (leb p.k m && ltb m (p.k + p.a)) (ne_eqb r i n))

    pub weight_data : m < p.k → put_weight o symbol p i j r m ≡ o.one
    unfolding put_weight
    weight_data h =
        cond-false (eqb r i && (leb p.k m && ltb m (p.k + p.a))) _ _
        (and_right (eqb r i) (leb p.k m && ltb m (p.k + p.a)) (and_left (leb p.k m) (ltb m (p.k + p.a)) (lt-leb p.k m h)))

    pub weight_step : p.k + p.a ≤ m → put_weight o symbol p i j r m ≡ o.one
    unfolding put_weight
    weight_step h =
        cond-false (eqb r i && (leb p.k m && ltb m (p.k + p.a))) _ _
        (and_right (eqb r i) (leb p.k m && ltb m (p.k + p.a)) (and_right (leb p.k m) (ltb m (p.k + p.a)) (le-ltb m (p.k + p.a) h)))

    -- the weight as the row rule around no gap has it
    pub weight_around : j < p.k → r ≡ i → p.k ≤ m → m < p.k + p.a → basis o (λ l. symbol (skip p.k l)) p.k j (symbol m) ≡ put_weight o symbol p i j r m
    weight_around h e a b =
        basis_as (λ l. symbol (skip p.k l)) symbol p.k j (symbol m) h (λ l g. ap symbol (cond-true (ltb l p.k) l (l + 1) (lt-ltb l p.k g)))
        ∙ sym (weight_rule e a b)
