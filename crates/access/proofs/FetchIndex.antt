-- What the listing of a fetch has at an index. Assumes nothing.
use Rattle.std.proofs.Common.{◌≡◌, ℕ, zero, suc, ◌+◌, ◌-◌, ◌<◌, ◌≤◌, length, get_or, refl, ap, ◌∙◌, arith}
use Rattle.sheet.specs.declared.place.Part.TheVariants.{First}
use Rattle.sheet.specs.Places.{at}
use Rattle.array.specs.declared.parameters.Parameters.{Parameters}
use Rattle.array.specs.Layout.{steps, wrap, offset, step_node, skip}
use Rattle.array.specs.Sheet.{row_places}
use Rattle.array.proofs.Indexed.{at_read, at_counted, row_length}
use Rattle.access.specs.declared.fetch.Way.{Way}
use Rattle.access.specs.declared.fetch.Way.TheVariants.{OwnRow, OwnStep, LastStep}
use Rattle.access.specs.Fetch.{way_of, step_reads, reads, fetch_places, fetch_entries}
use Rattle.access.proofs.Offsets.{by_way}
use Rattle.access.proofs.Reading.{step_size, last_size}
use Rattle.access.proofs.Reached.{length_part}

-- the places by index: of a row, from the node
pub row_read : (p : Parameters) (i j l m : ℕ) → l < p.k → m ≡ skip j l → at i m ≡ get_or (row_places p j i) l (at i m)
unfolding row_places
row_read p i j l m h e =
    ap (at i) e ∙ at_read (row_places p j i) l (at i (skip j l)) (at i m) (at_counted (λ c. at i (skip j c)) 0 p.k l l h (omega arith))

-- and of a step
pub step_read : (p : Parameters) (j x l m : ℕ) → l < p.k - x → (l ≡ 0 → m ≡ step_node p x) → (1 ≤ l → m ≡ wrap p (j + l)) → at j m ≡ get_or (step_reads p j x) l (at j m)
unfolding step_reads
step_read p j x zero m h first rest = ap (at j) (first refl)
step_read p j x (suc l) m h first rest =
    ap (at j) (rest (omega arith))
    ∙ at_read (step_reads p j x) (suc l) (at j (wrap p (j + suc l))) (at j m) (at_counted (λ m. at j (wrap p (j + m))) 1 (p.k - x - 1) l (suc l) (omega arith) (omega arith))

-- how many places a way lists
abbrev pub way_size : Parameters → ℕ → Way → ℕ
way_size p x OwnRow = p.k
way_size p x OwnStep = p.k - x
way_size p x LastStep = p.k - steps p

module _ (p : Parameters) (i j : ℕ) (hi : i < p.k) (hj : j < p.k) where
  pub places_length : length (fetch_places p i j) ≡ way_size p (offset p i j) (way_of p (offset p i j))
  unfolding fetch_places
  places_length =
      by_way p (offset p i j) (λ w. length (reads p i j (offset p i j) w) ≡ way_size p (offset p i j) w) (λ _. row_length p j i)
      (λ a b. step_size p i j hi hj (offset p i j) refl a) (λ a b. last_size p i j hi hj (offset p i j) refl a)

  pub entries_length : length (fetch_entries p i j) ≡ way_size p (offset p i j) (way_of p (offset p i j))
  unfolding fetch_entries
  entries_length = length_part First _ ∙ places_length
