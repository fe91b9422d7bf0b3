-- What the bytes of a card image mean. Assumes nothing.
use Rattle.std.specs.Prelude.{◌≡◌, ℕ, ◌+◌, ◌*◌, ◌<◌, ◌≤◌, min, cond, List, [], ◌∷◌, None, Option, ◌==◌, slice_index}
use Rattle.image.specs.declared.record.Record.{Record}
use Rattle.store.specs.Meaning.{Meaning}
use Rattle.store.specs.Laid.{laid}

-- the record that lies in the four bytes from `at` on, zeros past the end
abbrev pub four : List ℕ → ℕ → Record
four bytes at = record { mark = slice_index bytes at; high = slice_index bytes (at + 1); low = slice_index bytes (at + 2); meter = slice_index bytes (at + 3) }

-- what a record holds: nothing, unless its mark is 1 and its number has a symbol
abbrev pub holds : {F : Type 0} → (ℕ → Option F) → Record → Option F
holds symbol r = cond (r.mark == 1) (symbol (r.high * 256 + r.low)) None

-- the meter, which counts as 250 where it is more
abbrev pub wear : Record → ℕ
wear r = min r.meter 250

-- the record of a place that is new
abbrev pub zeros : Record
zeros = record { mark = 0; high = 0; low = 0; meter = 0 }

-- the record with its meter at 0
abbrev pub rewound : Record → Record
rewound r = record { mark = r.mark; high = r.high; low = r.low; meter = 0 }

-- the bytes of a record, in the order in which they lie
abbrev pub bytes_of : Record → List ℕ
bytes_of r = r.mark ∷ r.high ∷ r.low ∷ r.meter ∷ []

-- the store of the first rows * nodes records, whose life is 250: the k-th has the bytes from 4 * k on
abbrev pub imaged : {F : Type 0} → (ℕ → Option F) → ℕ → ℕ → List ℕ → Meaning F
imaged symbol rows nodes bytes = laid rows nodes 250 (λ k. holds symbol (four bytes (4 * k))) (λ k. wear (four bytes (4 * k)))

-- the bytes from `start` on and below `end` are zeros
abbrev pub Zeros : ℕ → ℕ → List ℕ → Type 0
Zeros start end bytes = (k : ℕ) → start ≤ k → k < end → slice_index bytes k ≡ 0
