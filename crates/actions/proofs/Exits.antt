-- Each exit of a call, by what led to it.
use Rattle.std.proofs.Common.{◌≡◌, ℕ, ◌<◌, ◌≤◌, true, false, cond, List, [], ◌∷◌, map, length, None, Ok, Err, Option, Result, sym, refl, ap, ◌∙◌, subst, ap₂, inl, inr, arith}
use Rattle.std.proofs.lemmas.Bool.{cond-true}
use Rattle.store.specs.Meaning.{Meaning, on}
use Rattle.sheet.specs.declared.place.Entry.{Entry}
use Rattle.sheet.specs.declared.place.Record.{Record}
use Rattle.sheet.specs.declared.place.Part.TheVariants.{First}
use Rattle.sheet.specs.Places.{at, listed, places_of, sheet_of}
use Rattle.sheet.specs.declared.place.Place.{Place}
use Rattle.code.specs.Codes.{CodeMeaning, Recipe, Slotted, blanks, is_blank}
use Rattle.calls.specs.Reading.{symbol_at, seen, raised, painted, in_node, wiped, blank_record}
use Rattle.calls.specs.Calls.{Sheeted, given_by, held, fetch_recipe, found, FetchedBy, mend_recipe, mend_sheet, mended, after_memory}
use Rattle.calls.specs.Faults.{sheet_fault, call_fault}
use Rattle.calls.specs.declared.call.CallName.{CallName}
use Rattle.calls.specs.declared.call.CallName.TheVariants.{Fetch, Mend}
use Rattle.calls.specs.declared.call.Reason.{Reason}
use Rattle.calls.specs.declared.call.CallFault.{CallFault}
use Rattle.calls.specs.declared.call.SheetFault.{SheetFault}
use Rattle.calls.specs.declared.call.Found.{Found}
use Rattle.reading.specs.Checks.{checked, Readable}
use Rattle.sheet.proofs.Lists.{distinct_one, listed_one, listed_at, places_length, places_at, one_listed}
use Rattle.reading.proofs.Checking.{checked_clear, checked_stops}
use Rattle.actions.proofs.Declining.{declined_here}
use Rattle.actions.proofs.Painting.{painted_ext, node_row}

-- a call that reads a sheet
module _ {A F : Type 0} (call : CallName) (m : Meaning F) (es : List Entry) (a : A) (m₂ : Meaning F) where
  pub sheet_open : (d : Option Reason) (r : Result A CallFault) (m' : Meaning F) → d ≡ None → Sheeted call None m es a m₂ r m' → Sheeted call d m es a m₂ r m'
  sheet_open d r m' h s = subst (λ x. Sheeted call x m es a m₂ r m') (sym h) s

  pub sheet_read : (r : Result A CallFault) (m' : Meaning F) → Ok tt ≡ checked call m es → r ≡ Ok a → m' ≡ m₂ → Sheeted call None m es a m₂ r m'
  unfolding Sheeted
  sheet_read r m' c p l = inl (record { clear = checked_clear call m es (sym c); answer = p; leaves = l })

  pub sheet_unread : ((i j : ℕ) → listed (places_of es) (at i j) ≡ true → on m i j ≡ true) → (f : SheetFault) (r : Result A CallFault) (m' : Meaning F) → Err f ≡ checked call m es → r ≡ Err (call_fault f) → m' ≡ m → Sheeted call None m es a m₂ r m'
  unfolding Sheeted
  sheet_unread inside f r m' c p l =
      let s = checked_stops call m es f (sym c) in
      let q = s.entry.place in
      let t = ap (listed (places_of es)) (places_at es s.index s.entry s.within (sym s.on_sheet)) ∙ listed_at (places_of es) s.index s.entry.place (omega (arith, s.within, places_length es)) in
      let w = declined_here m s.entry.place.row s.entry.place.node (inside s.entry.place.row s.entry.place.node t) f.fault s.declined in
      inr (record {
        index = s.index;
        entry = s.entry;
        cause = w.0;
        within = s.within;
        on_sheet = s.on_sheet;
        declined = s.declined ∙ ap Err w.1;
        named = w.2;
        answer = p ∙ ap (λ x. Err (call_fault x)) (s.named ∙ ap (sheet_fault call s.entry.part) w.1);
        leaves = l;
      })

-- working memory
pub memory_kept : {A F : Type 0} (z : F) (y : CallFault) (r : Result A CallFault) (memory : List (Record F)) → r ≡ Err y → memory ≡ after_memory z r memory
unfolding after_memory
memory_kept z y r memory e = ap (λ t. after_memory z t memory) (sym e)

map_same : {A B : Type 0} (b : B) (xs ys : List A) → length xs ≡ length ys → map (λ _. b) xs ≡ map (λ _. b) ys
map_same b [] [] e = refl
map_same b [] (y ∷ ys) e = absurd (omega arith)
map_same b (x ∷ xs) [] e = absurd (omega arith)
map_same b (x ∷ xs) (y ∷ ys) e = ap (λ t. b ∷ t) (map_same b xs ys (omega arith))

pub wiped_same : {F : Type 0} (z : F) (xs ys : List (Record F)) → length xs ≡ length ys → wiped z xs ≡ wiped z ys
unfolding wiped
wiped_same z xs ys e = map_same (blank_record z) xs ys e

pub memory_wiped : {A F : Type 0} (z : F) (a : A) (r : Result A CallFault) (memory memory₁ memory₂ : List (Record F)) → r ≡ Ok a → memory₂ ≡ wiped z memory₁ → length memory₁ ≡ length memory → memory₂ ≡ after_memory z r memory
unfolding after_memory
memory_wiped z a r memory memory₁ memory₂ e w l = w ∙ wiped_same z memory₁ memory l ∙ ap (λ t. after_memory z t memory) (sym e)

pub slotted_more : (es : List Entry) (slot : ℕ → ℕ → ℕ) (room n : ℕ) → room ≤ n → Slotted es slot room → Slotted es slot n
slotted_more es slot room n l s = record { within = λ i j h. omega (arith, s.within i j h); apart = s.apart }

-- fetch
module _ {F : Type 0} (z : F) (code : CodeMeaning F) (m : Meaning F) (row column : ℕ) (d : Option Reason) (passes : d ≡ None) (r : Result (Found F) CallFault) (m' : Meaning F) where
  pub fetch_blank : is_blank (m.symbol row column) ≡ true → (es : List Entry) (v : (ℕ → ℕ → F) → ℕ → F) → es ≡ (code.fetch (blanks m) row column).entries → ((f : ℕ → ℕ → F) → v f row ≡ (code.fetch (blanks m) row column).symbol f row) → FetchedBy z None m (record { entries = es; symbol = v }) row r m' → FetchedBy z d m (fetch_recipe code m row column) row r m'
  unfolding FetchedBy fetch_recipe found given_by
  fetch_blank b es v e h s =
      let q : Recipe F = code.fetch (blanks m) row column in
      subst (λ x. Sheeted Fetch x m (cond (is_blank (m.symbol row column)) (code.fetch (blanks m) row column) (held row column)).entries (found z m (cond (is_blank (m.symbol row column)) (code.fetch (blanks m) row column) (held row column)) row) (raised m (sheet_of (cond (is_blank (m.symbol row column)) (code.fetch (blanks m) row column) (held row column)).entries)) r m') (sym passes)
      (subst (λ t. Sheeted Fetch None m (cond t (code.fetch (blanks m) row column) (held row column)).entries (found z m (cond t (code.fetch (blanks m) row column) (held row column)) row) (raised m (sheet_of (cond t (code.fetch (blanks m) row column) (held row column)).entries)) r m') (sym b)
      (subst (λ u. Sheeted Fetch None m (code.fetch (blanks m) row column).entries (record { count = length (sheet_of (code.fetch (blanks m) row column).entries); symbol = u }) (raised m (sheet_of (code.fetch (blanks m) row column).entries)) r m') (h (seen z m (places_of (code.fetch (blanks m) row column).entries)))
      (subst (λ t. Sheeted Fetch None m t (record { count = length (sheet_of t); symbol = v (seen z m (places_of t)) row }) (raised m (sheet_of t)) r m') e s)))

  pub fetch_held : is_blank (m.symbol row column) ≡ false → FetchedBy z None m (held row column) row r m' → FetchedBy z d m (fetch_recipe code m row column) row r m'
  unfolding fetch_recipe
  fetch_held b s = subst (λ x. FetchedBy z x m (cond (is_blank (m.symbol row column)) (code.fetch (blanks m) row column) (held row column)) row r m') (sym passes) (subst (λ t. FetchedBy z None m (cond t (code.fetch (blanks m) row column) (held row column)) row r m') (sym b) s)

-- a held place, read by itself
module _ {F : Type 0} (z : F) (m : Meaning F) (row column : ℕ) where
  pub held_found : found z m (held row column) row ≡ record { count = 1; symbol = symbol_at z m row column }
  unfolding found given_by held seen sheet_of places_of
  held_found = ap₂ (λ n s. record { count = n; symbol = s }) (ap length (distinct_one (at row column))) (cond-true (listed (at row column ∷ []) (at row column)) (symbol_at z m row column) z (one_listed (at row column)))

  pub held_raised : raised m (at row column ∷ []) ≡ raised m (sheet_of (held {F = F} row column).entries)
  unfolding held sheet_of places_of
  held_raised = ap (raised m) (sym (distinct_one (at row column)))

-- mend
pub mend_by_plan : {F : Type 0} (z : F) (code : CodeMeaning F) (m : Meaning F) (node : ℕ) (d : Option Reason) → d ≡ None → (rows : ℕ) → rows ≡ code.rows → (es : List Entry) (v : (ℕ → ℕ → F) → ℕ → F) → es ≡ (code.mend (blanks m) node).entries → ((f : ℕ → ℕ → F) (row : ℕ) → row < code.rows → v f row ≡ (code.mend (blanks m) node).symbol f row) → (r : Result ℕ CallFault) (m' : Meaning F) → Sheeted Mend None m es (length (sheet_of es)) (painted (raised m (sheet_of es)) (in_node rows node) (λ i j. given_by z m (record { entries = es; symbol = v }) i)) r m' → Sheeted Mend d m (mend_recipe code m node).entries (length (mend_sheet code m node)) (mended z code m node) r m'
unfolding mend_recipe mend_sheet mended given_by
mend_by_plan {F} z code m node d passes rows er es v e h r m' s =
    subst (λ x. Sheeted Mend x m (code.mend (blanks m) node).entries (length (sheet_of (code.mend (blanks m) node).entries)) (mended z code m node) r m') (sym passes)
    (subst (λ x. Sheeted Mend None m (code.mend (blanks m) node).entries (length (sheet_of (code.mend (blanks m) node).entries)) x r m')
    (painted_ext (raised m (sheet_of (code.mend (blanks m) node).entries)) (in_node code.rows node) (λ i j. v (seen z m (places_of (code.mend (blanks m) node).entries)) i) (λ i j. (code.mend (blanks m) node).symbol (seen z m (places_of (code.mend (blanks m) node).entries)) i) (λ i j t. h (seen z m (places_of (code.mend (blanks m) node).entries)) i (node_row code.rows node i j t).0))
    (subst (λ n. Sheeted Mend None m (code.mend (blanks m) node).entries (length (sheet_of (code.mend (blanks m) node).entries)) (painted (raised m (sheet_of (code.mend (blanks m) node).entries)) (in_node n node) (λ i j. v (seen z m (places_of (code.mend (blanks m) node).entries)) i)) r m') er
    (subst (λ t. Sheeted Mend None m t (length (sheet_of t)) (painted (raised m (sheet_of t)) (in_node rows node) (λ i j. v (seen z m (places_of t)) i)) r m') e s)))

-- reading keeps the size of a store
pub raised_sizes : {F : Type 0} (m m₁ : Meaning F) (ps : List Place) → m₁ ≡ raised m ps → (m₁.rows ≡ m.rows) × (m₁.nodes ≡ m.nodes)
unfolding raised
raised_sizes m m₁ ps q = (ap (λ x. x.rows) q, ap (λ x. x.nodes) q)

pub held_inside : {F : Type 0} (m : Meaning F) (row column : ℕ) → on m row column ≡ true → (i j : ℕ) → listed (places_of (held {F = F} row column).entries) (at i j) ≡ true → on m i j ≡ true
unfolding held places_of
held_inside m row column h i j l = ap (λ q. on m q.row q.node) (listed_one (at row column) (at i j) l) ∙ h

pub held_readable : {F : Type 0} (m : Meaning F) (row column : ℕ) → Ok tt ≡ checked Fetch m (record { part = First; place = at row column } ∷ []) → Readable m row column
unfolding places_of
held_readable m row column c = checked_clear Fetch m (record { part = First; place = at row column } ∷ []) (sym c) row column (one_listed (at row column))
