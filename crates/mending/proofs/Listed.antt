-- What the listing of a parity node has at an index. Assumes nothing.
use Rattle.std.proofs.Common.{◌≡◌, ℕ, ◌+◌, ◌-◌, ◌*◌, ◌/◌, ◌%◌, ◌<◌, List, map, length, get_or, sym, ap, ◌∙◌, subst, mod-lt, div-lt_iff_lt-mul, arith}
use native.Mathlib.Nat.{mod-add-div'}
use Rattle.std.specs.List.{range_with_len}
use Rattle.std.proofs.lemmas.List.{length-map}
use Rattle.std.proofs.lemmas.List.FromFn.{length-map-range_with_len}
use Rattle.sheet.specs.declared.place.Place.{Place}
use Rattle.sheet.specs.declared.place.Part.TheVariants.{First}
use Rattle.sheet.specs.Places.{at, in_part}
use Rattle.array.specs.declared.parameters.Parameters.{Parameters}
use Rattle.array.specs.Sheet.{kept_node, offset_places}
use Rattle.array.proofs.Kept.{offset_length}
use Rattle.array.proofs.Indexed.{At, at_read, at_counted, at_each, entry}

pub parity_length : (s : Parameters) (t : ℕ) → s.k * (s.k - t) ≡ length (in_part First (offset_places s t))
parity_length s t = sym (length-map (offset_places s t) (entry First) ∙ offset_length s t)

-- the row of an index, and the index in its row
module _ (s : Parameters) (t i w : ℕ) (width : w ≡ s.k - t) (below : t < s.k) (inside : i < s.k * (s.k - t)) where
  within : (i / w < s.k) × (i % w < w) × (i ≡ i / w * w + i % w)
  within =
      let c : i < s.k * w = subst (λ n. i < s.k * n) (sym width) inside in
      ((div-lt_iff_lt-mul (omega arith)).1 c, mod-lt i (omega arith), omega (arith, mod-add-div' i w))

  pub place_read : (node : ℕ) → node ≡ kept_node t (i / w) (i % w) → at (i / w) node ≡ get_or (offset_places s t) i (at (i / w) node)
  unfolding offset_places
  place_read node e =
      let (a, b, c) = within in
      let f : ℕ → List Place = λ i. map (λ c. at i (kept_node t i c)) (range_with_len 0 (s.k - t)) in
      ap (at (i / w)) e
      ∙ at_read (offset_places s t) i (at (i / w) (kept_node t (i / w) (i % w))) (at (i / w) node)
      (at_each f 0 s.k w (i / w) (i % w) i (at (i / w) (kept_node t (i / w) (i % w)))
      (λ x u v. length-map-range_with_len (λ c. at x (kept_node t x c)) 0 (s.k - t) ∙ sym width) a c
      (subst (λ r. At (f r) (i % w) (at (i / w) (kept_node t (i / w) (i % w)))) (sym (omega arith))
      (at_counted (λ c. at (i / w) (kept_node t (i / w) c)) 0 (s.k - t) (i % w) (i % w) (omega arith) (omega arith))))
