-- Each accepted call keeps the claims, and so does every declined one. Assumes nothing.
use Rattle.std.proofs.Common.{◌≡◌, ℕ, ◌+◌, ◌*◌, ◌<◌, ◌≤◌, Bool, true, false, cond, ◌&&◌, eqb, ltb, List, [], ◌∷◌, length, get_or, Some, None, Ok, Err, Option, Result, sym, refl, ap, ◌∙◌, subst, arith}
use mathlib.Core.Path.{fun_ext}
use Rattle.std.proofs.lemmas.Bool.{lt-ltb, le-ltb, eqb-true, ne_eqb, false_from_ne_true, and_right, and_from, and_parts, cond-true, cond-false}
use Rattle.field.specs.Laws.{Operations}
use Rattle.store.specs.Meaning.{Meaning, probed, cleared, refreshed}
use Rattle.sheet.specs.declared.place.Place.{Place}
use Rattle.sheet.specs.declared.place.Entry.{Entry}
use Rattle.sheet.specs.Places.{at, listed, places_of, sheet_of}
use Rattle.sheet.proofs.Lists.{listed_distinct, listed_one, listed_at}
use Rattle.code.specs.Codes.{CodeMeaning, CodeLaws, Recipe, Recovers, Replaces, is_blank, blanks, replaced}
use Rattle.calls.specs.Reading.{or_else, symbol_at, seen, raised, painted, in_array, in_node, blank_below}
use Rattle.calls.specs.Calls.{fits, Made, data_of, array_set, node_meters, patched, given_by, held, fetch_recipe, mend_recipe, mend_sheet, mended}
use Rattle.calls.specs.History.{Ask, set, put, fetch, lose, refresh, mend, Event, entered, ledger, Empty, Full, known, count_of, counts, cleared_of, clearings}
use Rattle.calls.specs.Theorem.{all_meters, Claims}
use Rattle.calls.specs.declared.call.Answer.{Answer}
use Rattle.calls.specs.declared.call.Answer.TheVariants.{Counted, Fetched, Cleared}
use Rattle.calls.specs.declared.call.CallFault.{CallFault}
use Rattle.calls.proofs.Declines.{probed_some, fits_parts}
use Rattle.calls.proofs.Totals.{meters_raised, meters_cleared, meters_blank}

-- all probes of a listing's places answer
abbrev pub Clear : {F : Type 0} → Meaning F → List Entry → Type 0
Clear {F} m es = (i j : ℕ) → listed (places_of es) (at i j) ≡ true → (s : F) × (probed m i j ≡ Ok s)

-- a place of a list that stands inside does not stand outside
pub unlisted_row : (ps : List Place) (rows nodes i j : ℕ) → ((i j : ℕ) → listed ps (at i j) ≡ true → (i < rows) × (j < nodes)) → rows ≤ i → listed ps (at i j) ≡ false
unlisted_row ps rows nodes i j inside l = false_from_ne_true (listed ps (at i j)) (λ e. omega (arith, (inside i j e).0))

pub unlisted_node : (ps : List Place) (rows nodes i j : ℕ) → ((i j : ℕ) → listed ps (at i j) ≡ true → (i < rows) × (j < nodes)) → nodes ≤ j → listed ps (at i j) ≡ false
unlisted_node ps rows nodes i j inside l = false_from_ne_true (listed ps (at i j)) (λ e. omega (arith, (inside i j e).1))

-- what a test left as it was
kept_none : {F : Type 0} (b : Bool) (x : Option F) (s : F) → cond b None x ≡ Some s → x ≡ Some s
kept_none true x s q = cc
kept_none false x s q = q

none_kept : {F : Type 0} (b : Bool) (x : Option F) → x ≡ None → cond b None x ≡ None
none_kept true x q = refl
none_kept false x q = q

zero_kept : (b : Bool) (x : ℕ) → x ≡ 0 → cond b 0 x ≡ 0
zero_kept true x q = refl
zero_kept false x q = q

module _ {F : Type 0} (o : Operations F) (code : CodeMeaning F) (m₀ : Meaning F) where
  abbrev pub event : Ask F → ℕ → Result (Answer F) CallFault → Event F
  event a n r = record { ask = a; room = n; answer = r }

  -- the two claims that speak of the ledger's symbols
  abbrev Rights : (ℕ → ℕ → Option F) → Meaning F → Type 0
  Rights l m = (i j : ℕ) (s : F) → i < code.rows → j < code.nodes → m.symbol i j ≡ Some s → Full code l × (s ≡ code.symbol (known o.zero l) i j)

  abbrev Nones : (ℕ → ℕ → Option F) → Meaning F → Type 0
  Nones l m = Empty l → (i j : ℕ) → j < code.nodes → m.symbol i j ≡ None

  pub moved : (h : List (Event F)) (a : Ask F) (n : ℕ) (r r₁ : Result (Answer F) CallFault) (m m₁ : Meaning F) → r ≡ r₁ → m ≡ m₁
      → Claims o code m₀ (event a n r₁ ∷ h) m₁ → Claims o code m₀ (event a n r ∷ h) m
  moved h a n r r₁ m m₁ e f c = subst (λ x. Claims o code m₀ (event a n x ∷ h) m) (sym e) (subst (λ x. Claims o code m₀ (event a n r₁ ∷ h) x) (sym f) c)

  pub kept_made : (size : ℕ) (m : Meaning F) → Made size code m₀ m → Claims o code m₀ [] m
  unfolding blank_below counts clearings all_meters node_meters ledger
  kept_made size m d = subst (λ x. Claims o code m₀ [] x) (sym d.leaves) blank
    where
      blank : Claims o code m₀ [] (blank_below code.nodes m₀)
      blank = record {
        sizes = (refl, refl, refl);
        right = λ i j s li lj e.
            let n : cond (ltb j code.nodes) None (m₀.symbol i j) ≡ None = cond-true (ltb j code.nodes) None (m₀.symbol i j) (lt-ltb j code.nodes lj) in
            cc;
        none = λ _ i j lj. cond-true (ltb j code.nodes) None (m₀.symbol i j) (lt-ltb j code.nodes lj);
        spare_rows = λ i j li lj. (cond-true (ltb j code.nodes) None (m₀.symbol i j) (lt-ltb j code.nodes lj), cond-true (ltb j code.nodes) 0 (m₀.meter i j) (lt-ltb j code.nodes lj));
        spare_nodes = λ i j lj. (cond-false (ltb j code.nodes) None (m₀.symbol i j) (le-ltb j code.nodes lj), cond-false (ltb j code.nodes) 0 (m₀.meter i j) (le-ltb j code.nodes lj));
        balance = omega (arith, meters_blank m₀ code.nodes);
      }

  pub kept_declined : (h : List (Event F)) (a : Ask F) (n : ℕ) (e : CallFault) (m : Meaning F) → Claims o code m₀ h m → Claims o code m₀ (event a n (Err e) ∷ h) m
  unfolding counts clearings count_of cleared_of ledger entered
  kept_declined h a n e m c = record {
    sizes = c.sizes;
    right = subst (λ l. Rights l m) (sym (same a)) c.right;
    none = subst (λ l. Nones l m) (sym (same a)) c.none;
    spare_rows = c.spare_rows;
    spare_nodes = c.spare_nodes;
    balance = omega (arith, c.balance);
  }
    where
      same : (a : Ask F) → entered o.zero code a (Err e) (ledger o.zero code h) ≡ ledger o.zero code h
      same (set xs) = refl
      same (put row column x) = refl
      same (fetch row column) = refl
      same (lose node) = refl
      same (refresh node) = refl
      same (mend node) = refl

  pub kept_lose : (h : List (Event F)) (node n : ℕ) (m : Meaning F) → node < code.nodes → fits code m ≡ true → Claims o code m₀ h m
      → Claims o code m₀ (event (lose node) n (Ok (Cleared (node_meters m node))) ∷ h) (cleared m node)
  unfolding counts clearings count_of cleared_of ledger entered all_meters node_meters
  kept_lose h node n m l f c = record {
    sizes = c.sizes;
    right = λ i j s li lj q. c.right i j s li lj (kept_none (ltb node m.nodes && eqb j node) (m.symbol i j) s q);
    none = λ e i j lj. none_kept (ltb node m.nodes && eqb j node) (m.symbol i j) (c.none e i j lj);
    spare_rows = λ i j li lj. let p = c.spare_rows i j li lj in (none_kept (ltb node m.nodes && eqb j node) (m.symbol i j) p.0, zero_kept (ltb node m.nodes && eqb j node) (m.meter i j) p.1);
    spare_nodes = λ i j lj.
        let t : (ltb node m.nodes && eqb j node) ≡ false = and_right (ltb node m.nodes) (eqb j node) (ne_eqb j node (λ q. omega arith)) in
        let p = c.spare_nodes i j lj in
        (cond-false (ltb node m.nodes && eqb j node) None (m.symbol i j) t ∙ p.0, cond-false (ltb node m.nodes && eqb j node) 0 (m.meter i j) t ∙ p.1);
    balance = omega (arith, c.balance, sums);
  }
    where
      sums : all_meters code (cleared m node) + node_meters m node ≡ all_meters code m
      sums = let p = fits_parts code m f in meters_cleared m node code.nodes (ltb node m.nodes) (lt-ltb node m.nodes (omega (arith, p.1))) l

  pub kept_refresh : (h : List (Event F)) (node n : ℕ) (m : Meaning F) → node < code.nodes → fits code m ≡ true → Claims o code m₀ h m
      → Claims o code m₀ (event (refresh node) n (Ok (Cleared (node_meters m node))) ∷ h) (refreshed m node)
  unfolding counts clearings count_of cleared_of ledger entered all_meters node_meters
  kept_refresh h node n m l f c = record {
    sizes = c.sizes;
    right = c.right;
    none = c.none;
    spare_rows = λ i j li lj. let p = c.spare_rows i j li lj in (p.0, zero_kept (ltb node m.nodes && eqb j node) (m.meter i j) p.1);
    spare_nodes = λ i j lj.
        let t : (ltb node m.nodes && eqb j node) ≡ false = and_right (ltb node m.nodes) (eqb j node) (ne_eqb j node (λ q. omega arith)) in
        let p = c.spare_nodes i j lj in
        (p.0, cond-false (ltb node m.nodes && eqb j node) 0 (m.meter i j) t ∙ p.1);
    balance = omega (arith, c.balance, sums);
  }
    where
      sums : all_meters code (refreshed m node) + node_meters m node ≡ all_meters code m
      sums = let p = fits_parts code m f in meters_cleared m node code.nodes (ltb node m.nodes) (lt-ltb node m.nodes (omega (arith, p.1))) l

  module _ (laws : CodeLaws o code) where
    -- a ledger that has a symbol for each data place has one
    full_some : (l : ℕ → ℕ → Option F) → Full code l → Empty l → ⊥
    unfolding Full Empty
    full_some l full empty =
        let p = full 0 0 laws.some_row laws.some_column in
        let e = empty 0 0 in
        cc

    pub kept_set : (h : List (Event F)) (xs : List F) (n : ℕ) (m : Meaning F) → Claims o code m₀ h m
        → Claims o code m₀ (event (set xs) n (Ok (Counted 0)) ∷ h) (array_set code m (data_of o.zero code xs))
    unfolding counts clearings count_of cleared_of ledger entered all_meters node_meters array_set painted in_array Full known data_of or_else
    kept_set h xs n m c = record {
      sizes = c.sizes;
      right = λ i j s li lj q. (full, let v = cond-true (ltb i code.rows && ltb j code.nodes) (Some (code.symbol (data_of o.zero code xs) i j)) (m.symbol i j) (inside i j li lj) in let w : s ≡ code.symbol (data_of o.zero code xs) i j = cc in w ∙ ap (λ d. code.symbol d i j) (sym same));
      none = λ e. absurd (full_some _ full e);
      spare_rows = λ i j li lj. let p = c.spare_rows i j li lj in (cond-false (ltb i code.rows && ltb j code.nodes) _ (m.symbol i j) (below i j li) ∙ p.0, p.1);
      spare_nodes = λ i j lj. let p = c.spare_nodes i j lj in (cond-false (ltb i code.rows && ltb j code.nodes) _ (m.symbol i j) (and_right (ltb i code.rows) (ltb j code.nodes) (le-ltb j code.nodes lj)) ∙ p.0, p.1);
      balance = omega (arith, c.balance);
    }
      where
        inside : (i j : ℕ) → i < code.rows → j < code.nodes → (ltb i code.rows && ltb j code.nodes) ≡ true
        inside i j li lj = and_from (ltb i code.rows) (ltb j code.nodes) (lt-ltb i code.rows li) (lt-ltb j code.nodes lj)

        below : (i j : ℕ) → code.rows ≤ i → (ltb i code.rows && ltb j code.nodes) ≡ false
        below i j li = ap (λ b. b && ltb j code.nodes) (le-ltb i code.rows li)

        full : Full code (λ i j. cond (ltb i code.rows && ltb j code.columns) (Some (get_or xs (i * code.columns + j) o.zero)) None)
        full i j li lj = (get_or xs (i * code.columns + j) o.zero, cond-true (ltb i code.rows && ltb j code.columns) _ _ (and_from (ltb i code.rows) (ltb j code.columns) (lt-ltb i code.rows li) (lt-ltb j code.columns lj)))

        same : known o.zero (λ i j. cond (ltb i code.rows && ltb j code.columns) (Some (get_or xs (i * code.columns + j) o.zero)) None) ≡ data_of o.zero code xs
        same = fun_ext (λ i. fun_ext (λ j. go (ltb i code.rows && ltb j code.columns) (get_or xs (i * code.columns + j) o.zero)))
          where
            go : (b : Bool) (x : F) → or_else o.zero (cond b (Some x) None) ≡ cond b x o.zero
            go true x = refl
            go false x = refl

    -- a place that a probe answers holds the array's symbol
    pub seen_right : (h : List (Event F)) (m : Meaning F) (i j : ℕ) (s : F) → i < code.rows → j < code.nodes → probed m i j ≡ Ok s → Claims o code m₀ h m
        → Full code (ledger o.zero code h) × (symbol_at o.zero m i j ≡ code.symbol (known o.zero (ledger o.zero code h)) i j)
    unfolding symbol_at or_else
    seen_right h m i j s li lj e c = let q = probed_some m i j s e in let p = c.right i j s li lj q in (p.0, ap (or_else o.zero) q ∙ p.1)

    -- a recipe whose places are held gives the array's symbol
    pub recovered : (h : List (Event F)) (m : Meaning F) (row node : ℕ) (r : Recipe F) → Recovers code r row node → Clear m r.entries → Claims o code m₀ h m
        → Full code (ledger o.zero code h) × (given_by o.zero m r row ≡ code.symbol (known o.zero (ledger o.zero code h)) row node)
    unfolding given_by seen
    recovered h m row node r v clear c = ((at_place v.some.0 v.some.1 v.some.2).0, v.right (known o.zero (ledger o.zero code h)) (seen o.zero m (places_of r.entries)) (λ i j l. (at_place i j l).1))
      where
        at_place : (i j : ℕ) → listed (places_of r.entries) (at i j) ≡ true → Full code (ledger o.zero code h) × (seen o.zero m (places_of r.entries) i j ≡ code.symbol (known o.zero (ledger o.zero code h)) i j)
        at_place i j l =
            let s = clear i j l in
            let b = v.inside i j l in
            let p = seen_right h m i j s.0 b.0 b.1 s.1 c in
            (p.0, cond-true (listed (places_of r.entries) (at i j)) (symbol_at o.zero m i j) o.zero l ∙ p.1)

    abbrev Inside : List Place → Type 0
    Inside ps = (i j : ℕ) → listed ps (at i j) ≡ true → (i < code.rows) × (j < code.nodes)

    sheet_inside : (es : List Entry) → Inside (places_of es) → Inside (sheet_of es)
    unfolding sheet_of
    sheet_inside es inside i j l = inside i j (sym (listed_distinct (places_of es) (at i j)) ∙ l)

    -- reading a sheet adds its length to the meters
    read_meters : (m : Meaning F) (es : List Entry) → fits code m ≡ true → Inside (places_of es) → all_meters code (raised m (sheet_of es)) ≡ all_meters code m + length (sheet_of es)
    unfolding all_meters sheet_of
    read_meters m es fit inside =
        meters_raised m (places_of es) code.nodes (λ i j e. let b = inside i j (sym (listed_distinct (places_of es) (at i j)) ∙ e) in (omega (arith, b.0, (fits_parts code m fit).0), b.1))

    -- meters of places off a sheet stay
    spare_row_meter : (m : Meaning F) (ps : List Place) → Inside ps → (i j : ℕ) → code.rows ≤ i → (raised m ps).meter i j ≡ m.meter i j
    unfolding raised
    spare_row_meter m ps inside i j li = cond-false (listed ps (at i j)) (m.meter i j + 1) (m.meter i j) (unlisted_row ps code.rows code.nodes i j inside li)

    spare_node_meter : (m : Meaning F) (ps : List Place) → Inside ps → (i j : ℕ) → code.nodes ≤ j → (raised m ps).meter i j ≡ m.meter i j
    unfolding raised
    spare_node_meter m ps inside i j lj = cond-false (listed ps (at i j)) (m.meter i j + 1) (m.meter i j) (unlisted_node ps code.rows code.nodes i j inside lj)

    -- of a held place, the place itself
    held_recovers : (row column : ℕ) → row < code.rows → column < code.nodes → Recovers code (held row column) row column
    unfolding held places_of
    held_recovers row column lr lc =
        record {
          inside = λ i j e. let t = listed_one (at row column) (at i j) e in let r : i ≡ row = ap (λ p. p.row) t in let c : j ≡ column = ap (λ p. p.node) t in (omega arith, omega arith);
          some = (row, column, listed_at (at row column ∷ []) 0 (at row column) (omega arith));
          right = λ d f e. e row column (listed_at (at row column ∷ []) 0 (at row column) (omega arith));
        }

    fetch_recovers : (m : Meaning F) (row column : ℕ) → row < code.rows → column < code.columns → Recovers code (fetch_recipe code m row column) row column
    unfolding fetch_recipe
    fetch_recovers m row column lr lc = go (is_blank (m.symbol row column))
      where
        go : (b : Bool) → Recovers code (cond b (code.fetch (blanks m) row column) (held row column)) row column
        go true = laws.fetches (blanks m) row column lr lc
        go false = held_recovers row column lr (omega (arith, laws.wide))

    pub kept_fetch : (h : List (Event F)) (row column n : ℕ) (m : Meaning F) → row < code.rows → column < code.columns → fits code m ≡ true → Clear m (fetch_recipe code m row column).entries → Claims o code m₀ h m
        → Claims o code m₀ (event (fetch row column) n (Ok (Fetched (length (sheet_of (fetch_recipe code m row column).entries)) (given_by o.zero m (fetch_recipe code m row column) row))) ∷ h) (raised m (sheet_of (fetch_recipe code m row column).entries))
    unfolding counts clearings count_of cleared_of ledger entered raised all_meters node_meters
    kept_fetch h row column n m lr lc fit clear c =
        let v = fetch_recovers m row column lr lc in
        let inside = sheet_inside (fetch_recipe code m row column).entries v.inside in
        record {
          sizes = c.sizes;
          right = c.right;
          none = c.none;
          spare_rows = λ i j li lj. let p = c.spare_rows i j li lj in (p.0, spare_row_meter m _ inside i j li ∙ p.1);
          spare_nodes = λ i j lj. let p = c.spare_nodes i j lj in (p.0, spare_node_meter m _ inside i j lj ∙ p.1);
          balance = omega (arith, c.balance, read_meters m (fetch_recipe code m row column).entries fit v.inside);
        }

    -- the symbol that a fetch answers is the ledger's
    pub fetched_right : (h : List (Event F)) (row column : ℕ) (m : Meaning F) → row < code.rows → column < code.columns → Clear m (fetch_recipe code m row column).entries → Claims o code m₀ h m
        → ledger o.zero code h row column ≡ Some (given_by o.zero m (fetch_recipe code m row column) row)
    unfolding Full known or_else
    fetched_right h row column m lr lc clear c =
        let p = recovered h m row column (fetch_recipe code m row column) (fetch_recovers m row column lr lc) clear c in
        let l = ledger o.zero code h in
        let t = p.0 row column lr lc in
        let v : given_by o.zero m (fetch_recipe code m row column) row ≡ t.0 = p.1 ∙ laws.systematic (known o.zero l) row column lr lc ∙ ap (or_else o.zero) t.1 in
        t.1 ∙ ap Some (sym v)

    pub kept_mend : (h : List (Event F)) (node n : ℕ) (m : Meaning F) → node < code.nodes → fits code m ≡ true → Clear m (mend_recipe code m node).entries → Claims o code m₀ h m
        → Claims o code m₀ (event (mend node) n (Ok (Counted (length (mend_sheet code m node)))) ∷ h) (mended o.zero code m node)
    unfolding counts clearings count_of cleared_of ledger entered mended painted raised in_node all_meters node_meters mend_sheet mend_recipe
    kept_mend h node n m l fit clear c = record {
      sizes = c.sizes;
      right = λ i j s li lj q. rights i j s li lj (ltb i code.rows && eqb j node) refl q;
      none = λ e. absurd (full_some _ full e);
      spare_rows = λ i j li lj.
          let p = c.spare_rows i j li lj in
          (cond-false (ltb i code.rows && eqb j node) _ (m.symbol i j) (ap (λ b. b && eqb j node) (le-ltb i code.rows li)) ∙ p.0, spare_row_meter m _ inside i j li ∙ p.1);
      spare_nodes = λ i j lj.
          let p = c.spare_nodes i j lj in
          (cond-false (ltb i code.rows && eqb j node) _ (m.symbol i j) (and_right (ltb i code.rows) (eqb j node) (ne_eqb j node (λ q. omega arith))) ∙ p.0, spare_node_meter m _ inside i j lj ∙ p.1);
      balance = let e : all_meters code (mended o.zero code m node) ≡ all_meters code m + length (mend_sheet code m node) = read_meters m (code.mend (blanks m) node).entries fit (recovers 0 laws.some_row).inside in omega (arith, c.balance);
    }
      where
        recovers : (i : ℕ) → i < code.rows → Recovers code (code.mend (blanks m) node) i node
        recovers i li = laws.mends (blanks m) node i l li

        inside : Inside (sheet_of (code.mend (blanks m) node).entries)
        inside = sheet_inside (code.mend (blanks m) node).entries (recovers 0 laws.some_row).inside

        full : Full code (ledger o.zero code h)
        full = (recovered h m 0 node (code.mend (blanks m) node) (recovers 0 laws.some_row) clear c).0

        rights : (i j : ℕ) (s : F) → i < code.rows → j < code.nodes → (b : Bool) → (ltb i code.rows && eqb j node) ≡ b → cond b (Some (given_by o.zero m (code.mend (blanks m) node) i)) (m.symbol i j) ≡ Some s
            → Full code (ledger o.zero code h) × (s ≡ code.symbol (known o.zero (ledger o.zero code h)) i j)
        rights i j s li lj false e q = c.right i j s li lj q
        rights i j s li lj true e q =
            let at_node : j ≡ node = eqb-true j node (and_parts (ltb i code.rows) (eqb j node) e).1 in
            let p = recovered h m i node (code.mend (blanks m) node) (recovers i li) clear c in
            let v : s ≡ given_by o.zero m (code.mend (blanks m) node) i = cc in
            (p.0, v ∙ p.1 ∙ ap (code.symbol (known o.zero (ledger o.zero code h)) i) (sym at_node))

    abbrev put_places : ℕ → ℕ → List Place
    put_places row column = places_of (code.put row column).entries

    -- the data that the ledger of a history has
    abbrev data_after : List (Event F) → ℕ → ℕ → F
    data_after h = known o.zero (ledger o.zero code h)

    pub kept_put : (h : List (Event F)) (row column : ℕ) (x : F) (n : ℕ) (m : Meaning F) → row < code.rows → column < code.columns → fits code m ≡ true → Clear m (code.put row column).entries → Claims o code m₀ h m
        → Claims o code m₀ (event (put row column x) n (Ok (Counted (length (places_of (code.put row column).entries)))) ∷ h) (patched o m (code.put row column) row column x)
    unfolding counts clearings count_of cleared_of ledger entered patched painted raised all_meters node_meters Full known replaced or_else sheet_of
    kept_put h row column x n m lr lc fit clear c = record {
      sizes = c.sizes;
      right = λ i j s li lj q. (full', rights i j s li lj (listed (put_places row column) (at i j)) refl q ∙ ap (λ d. code.symbol d i j) (sym same));
      none = λ e. absurd (full_some _ full' e);
      spare_rows = λ i j li lj.
          let p = c.spare_rows i j li lj in
          (cond-false (listed (put_places row column) (at i j)) _ (m.symbol i j) (unlisted_row (put_places row column) code.rows code.nodes i j w.inside li) ∙ p.0, spare_row_meter m (put_places row column) w.inside i j li ∙ p.1);
      spare_nodes = λ i j lj.
          let p = c.spare_nodes i j lj in
          (cond-false (listed (put_places row column) (at i j)) _ (m.symbol i j) (unlisted_node (put_places row column) code.rows code.nodes i j w.inside lj) ∙ p.0, spare_node_meter m (put_places row column) w.inside i j lj ∙ p.1);
      balance = omega (arith, c.balance, sums);
    }
      where
        w : Replaces o code (code.put row column) row column
        w = laws.puts row column lr lc

        first_listed : listed (put_places row column) (at row column) ≡ true
        first_listed = ap (λ qs. listed qs (at row column)) w.first.1 ∙ listed_at (at row column ∷ w.first.0) 0 (at row column) (omega arith)

        known_at : (i j : ℕ) → listed (put_places row column) (at i j) ≡ true → Full code (ledger o.zero code h) × (symbol_at o.zero m i j ≡ code.symbol (data_after h) i j)
        known_at i j t = let s = clear i j t in let b = w.inside i j t in seen_right h m i j s.0 b.0 b.1 s.1 c

        full : Full code (ledger o.zero code h)
        full = (known_at row column first_listed).0

        old : symbol_at o.zero m row column ≡ (data_after h) row column
        old = (known_at row column first_listed).1 ∙ laws.systematic (data_after h) row column lr lc

        full' : Full code (λ i j. cond (eqb i row && eqb j column) (Some x) (ledger o.zero code h i j))
        full' i j li lj = go (eqb i row && eqb j column) (full i j li lj)
          where
            go : (b : Bool) → (s : F) × (ledger o.zero code h i j ≡ Some s) → (s : F) × (cond b (Some x) (ledger o.zero code h i j) ≡ Some s)
            go true t = (x, refl)
            go false t = t

        same : known o.zero (λ i j. cond (eqb i row && eqb j column) (Some x) (ledger o.zero code h i j)) ≡ replaced (data_after h) row column x
        same = fun_ext (λ i. fun_ext (λ j. go (eqb i row && eqb j column) (ledger o.zero code h i j)))
          where
            go : (b : Bool) (y : Option F) → or_else o.zero (cond b (Some x) y) ≡ cond b x (or_else o.zero y)
            go true y = refl
            go false y = refl

        rights : (i j : ℕ) (s : F) → i < code.rows → j < code.nodes → (b : Bool) → listed (put_places row column) (at i j) ≡ b
            → cond b (Some (o.sum (symbol_at o.zero m i j) (o.product ((code.put row column).weight i j) (o.difference x (symbol_at o.zero m row column))))) (m.symbol i j) ≡ Some s
            → s ≡ code.symbol (replaced (data_after h) row column x) i j
        rights i j s li lj true e q =
            let k = known_at i j e in
            let v : s ≡ o.sum (symbol_at o.zero m i j) (o.product ((code.put row column).weight i j) (o.difference x (symbol_at o.zero m row column))) = cc in
            v ∙ ap (λ t. o.sum t (o.product ((code.put row column).weight i j) (o.difference x (symbol_at o.zero m row column)))) k.1
            ∙ ap (λ t. o.sum (code.symbol (data_after h) i j) (o.product ((code.put row column).weight i j) (o.difference x t))) old
            ∙ sym (w.right (data_after h) x i j li lj ∙ cond-true (listed (put_places row column) (at i j)) _ (code.symbol (data_after h) i j) e)
        rights i j s li lj false e q = (c.right i j s li lj q).1 ∙ sym (w.right (data_after h) x i j li lj ∙ cond-false (listed (put_places row column) (at i j)) _ (code.symbol (data_after h) i j) e)

        sums : all_meters code (raised m (put_places row column)) ≡ all_meters code m + length (put_places row column)
        sums = let e = w.once in ap (λ qs. all_meters code (raised m qs)) (sym e) ∙ read_meters m (code.put row column).entries fit w.inside ∙ ap (λ qs. all_meters code m + length qs) e
