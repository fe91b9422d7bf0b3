-- What stands at an index of a listing in one part. Assumes nothing.
use Rattle.std.proofs.Common.{◌≡◌, ℕ, zero, suc, ◌<◌, List, [], ◌∷◌, length, get_or, ap, ◌∙◌, ap₂, arith}
use Rattle.sheet.specs.declared.place.Place.{Place}
use Rattle.sheet.specs.declared.place.Entry.{Entry}
use Rattle.sheet.specs.declared.place.Part.{Part}
use Rattle.sheet.specs.Places.{at, in_part}
use Rattle.array.proofs.Indexed.{At, at_read}

abbrev pub entry : Part → Place → Entry
entry part q = record { part = part; place = q }

-- the entry of a place that was read by its index
pub entry_read : (part : Part) (ps : List Place) (l : ℕ) (q : Place) → l < length ps → q ≡ get_or ps l q → entry part q ≡ get_or (in_part part ps) l (entry part q)
entry_read part [] l q h e = absurd (omega arith)
entry_read part (y ∷ ys) zero q h e = ap (λ q. entry part q) e
entry_read part (y ∷ ys) (suc l) q h e = entry_read part ys l q (omega arith) e

-- a place, from its row and node
pub place_read : (ps : List Place) (l r m r' m' : ℕ) → At ps l (at r' m') → r ≡ r' → m ≡ m' → at r m ≡ get_or ps l (at r m)
place_read ps l r m r' m' h e f = ap₂ at e f ∙ at_read ps l (at r' m') (at r m) h
