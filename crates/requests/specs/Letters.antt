-- The letters that choose a field and a store. Assumes nothing.
use Rattle.std.specs.Prelude.{◌≡◌, ◌≢◌, ℕ, List, Ok, Err, codes, Result}
use Rattle.lines.specs.declared.line.LineFault.{LineFault}
use Rattle.lines.specs.declared.line.LineFault.TheVariants.{Malformed}
use Rattle.requests.specs.declared.request.FieldKind.{FieldKind}
use Rattle.requests.specs.declared.request.FieldKind.TheVariants.{Decimal, Byte}
use Rattle.requests.specs.declared.request.StoreKind.{StoreKind}
use Rattle.requests.specs.declared.request.StoreKind.TheVariants.{Bank, Image}

-- d for the decimal field, b for the byte field
abbrev pub field_letter : FieldKind → List ℕ
field_letter Decimal = codes "d"
field_letter Byte = codes "b"

-- m for the memory bank, c for the card image
abbrev pub store_letter : StoreKind → List ℕ
store_letter Bank = codes "m"
store_letter Image = codes "c"

-- the word is the letter of the kind that is read, or it is malformed and no kind's letter
abbrev pub Chooses : {K : Type 0} → (K → List ℕ) → List ℕ → Result K LineFault → Type 0
Chooses letter word (Ok x) = word ≡ letter x
Chooses {K} letter word (Err f) = (f ≡ Malformed) × ((x : K) → word ≢ letter x)
