-- Every history keeps the claims. Assumes nothing.
use Rattle.std.proofs.Common.{◌≡◌, ℕ, ◌+◌, ◌*◌, ◌<◌, ◌≤◌, true, cond, ◌&&◌, eqb, ltb, leb, List, [], ◌∷◌, map, length, get_or, Some, None, Ok, Err, Option, Result, refl, ap, ◌∙◌, subst, inl, inr, arith}
use lib.ListN.{get_or-map}
use Rattle.std.proofs.lemmas.List.{length-map}
use Rattle.std.proofs.lemmas.Bool.{lt-ltb, eq-eqb, and_from, cond-true}
use Rattle.field.specs.Laws.{Operations}
use Rattle.store.specs.Meaning.{Meaning}
use Rattle.sheet.specs.declared.place.Entry.{Entry}
use Rattle.sheet.specs.Places.{at, listed, places_of, sheet_of}
use Rattle.sheet.proofs.Lists.{listed_distinct, listed_at}
use Rattle.code.specs.Codes.{CodeMeaning, CodeLaws, blanks}
use Rattle.calls.specs.Reading.{raised, painted, in_array, in_node}
use Rattle.calls.specs.Calls.{fits, lost, Made, make_decline, set_decline, node_decline, put_decline, fetch_decline, mend_decline, Sheeted, SetDone, PutDone, FetchDone, FetchedBy, LoseDone, RefreshDone, MendDone, data_of, array_set, given_by, found, fetch_recipe, mend_recipe, mend_sheet, mended}
use Rattle.calls.specs.History.{Ask, set, put, fetch, lose, refresh, mend, Event, Step, Leads, mapped, found_answer}
use Rattle.calls.specs.Theorem.{Claims, Latest, MendClaims, AloneLost, Unworn, Held, Suited, Extends, Begun}
use Rattle.calls.specs.declared.call.CallName.TheVariants.{Set, Put, Fetch, Lose, Refresh, Mend}
use Rattle.calls.specs.declared.call.Reason.{Reason}
use Rattle.calls.specs.declared.call.CallFault.{CallFault}
use Rattle.calls.specs.declared.call.Answer.{Answer}
use Rattle.calls.specs.declared.call.Answer.TheVariants.{Counted, Cleared}
use Rattle.calls.proofs.Declines.{suited_passed, node_passed, put_passed, fetch_passed, mend_passed, mend_open, fits_on, probed_held, unlost}
use Rattle.calls.proofs.Keeping.{Clear, event, moved, kept_made, kept_declined, kept_set, kept_put, kept_lose, kept_refresh, kept_fetch, kept_mend, fetched_right}
use Rattle.calls.proofs.Outcomes.{Refused, plain_outcome, sheet_outcome, others_none, others_cond, others_suited, other_range, other_length, other_memory, other_lost, suited_outcome}

clear_none : {F : Type 0} (m : Meaning F) → Clear m []
unfolding listed places_of
clear_none m i j l = cc

-- the place of a listing's entry is listed
entry_listed : (es : List Entry) (k : ℕ) (e : Entry) → k < length es → get_or es k e ≡ e → listed (places_of es) e.place ≡ true
unfolding places_of
entry_listed es k e l q =
    let n : k < length (map (λ x. x.place) es) = omega (arith, length-map es (λ x. x.place)) in
    let v : get_or (map (λ x. x.place) es) k e.place ≡ e.place = get_or-map (λ x. x.place) es k e ∙ ap (λ x. x.place) q in
    subst (λ p. listed (map (λ x. x.place) es) p ≡ true) v (listed_at (map (λ x. x.place) es) k e.place n)

module _ {F : Type 0} (o : Operations F) (size : ℕ) (code : CodeMeaning F) where
  pub begun : (m₀ m : Meaning F) → Made size code m₀ m → Begun o size code m₀ m
  unfolding Leads
  begun m₀ m d = record { leads = d; claims = kept_made o code m₀ size m d }

  -- a history began on a field and a store that are large enough
  made_suited : (m₀ : Meaning F) (h : List (Event F)) (m : Meaning F) → Leads o size code m₀ h m → (code.field_size ≤ size) × (fits code m₀ ≡ true)
  unfolding Leads make_decline
  made_suited m₀ [] m d = let p = suited_passed size code m₀ None d.accepted in (p.0, p.1)
  made_suited m₀ (e ∷ h) m l = made_suited m₀ h l.0 l.1

  still_fits : (m₀ m : Meaning F) → fits code m₀ ≡ true → (m.rows ≡ m₀.rows) × (m.nodes ≡ m₀.nodes) × (m.life ≡ m₀.life) → fits code m ≡ true
  unfolding fits
  still_fits m₀ m f s = rw (s.0, s.1) f

  module _ (laws : CodeLaws o code) (m₀ : Meaning F) (large : code.field_size ≤ size) where
    -- a refused call keeps the claims
    refused : (h : List (Event F)) (a : Ask F) (n : ℕ) (r : Result (Answer F) CallFault) (d : Option Reason) (m m' : Meaning F) → Claims o code m₀ h m → Refused d m r m' → Claims o code m₀ (event o code m₀ a n r ∷ h) m'
    refused h a n r d m m' c t = moved o code m₀ h a n r (Err t.fault) m' m t.answer t.leaves (kept_declined o code m₀ h a n t.fault m c)

    pub claims_step : (h : List (Event F)) (a : Ask F) (n : ℕ) (r : Result (Answer F) CallFault) (m m' : Meaning F) → fits code m ≡ true → Claims o code m₀ h m → Step o size code a n r m m' → Claims o code m₀ (event o code m₀ a n r ∷ h) m'
    unfolding Step SetDone PutDone FetchDone FetchedBy LoseDone RefreshDone MendDone found found_answer
    claims_step h (set xs) n r m m' f c s = elim (plain_outcome Set _ _ Counted _ _ s.0 r m' s.1 s.2 [] (λ i j. clear_none m)) [
      | inl t ↦ moved o code m₀ h (set xs) n r _ m' _ t.answer t.leaves (kept_set o code m₀ laws h xs n m c)
      | inr t ↦ refused h (set xs) n r _ m m' c t
    ]
    claims_step h (put row column x) n r m m' f c s = elim (sheet_outcome Put _ _ _ Counted _ _ s.0 r m' s.1 s.2) [
      | inl t ↦ let b = put_passed size code m row column t.passed in moved o code m₀ h (put row column x) n r _ m' _ t.answer t.leaves (kept_put o code m₀ laws h row column x n m b.2 b.3 f t.clear c)
      | inr t ↦ refused h (put row column x) n r _ m m' c t
    ]
    claims_step h (fetch row column) n r m m' f c s = elim (sheet_outcome Fetch _ _ _ found_answer _ _ s.0 r m' s.1 s.2) [
      | inl t ↦ let b = fetch_passed size code m row column n t.passed in moved o code m₀ h (fetch row column) n r _ m' _ t.answer t.leaves (kept_fetch o code m₀ laws h row column n m b.2 b.3 f t.clear c)
      | inr t ↦ refused h (fetch row column) n r _ m m' c t
    ]
    claims_step h (lose node) n r m m' f c s = elim (plain_outcome Lose _ _ Cleared _ _ s.0 r m' s.1 s.2 [] (λ i j. clear_none m)) [
      | inl t ↦ moved o code m₀ h (lose node) n r _ m' _ t.answer t.leaves (kept_lose o code m₀ h node n m (node_passed size code m node t.passed).2 f c)
      | inr t ↦ refused h (lose node) n r _ m m' c t
    ]
    claims_step h (refresh node) n r m m' f c s = elim (plain_outcome Refresh _ _ Cleared _ _ s.0 r m' s.1 s.2 [] (λ i j. clear_none m)) [
      | inl t ↦ moved o code m₀ h (refresh node) n r _ m' _ t.answer t.leaves (kept_refresh o code m₀ h node n m (node_passed size code m node t.passed).2 f c)
      | inr t ↦ refused h (refresh node) n r _ m m' c t
    ]
    claims_step h (mend node) n r m m' f c s = elim (sheet_outcome Mend _ _ _ Counted _ _ s.0 r m' s.1 s.2) [
      | inl t ↦ moved o code m₀ h (mend node) n r _ m' _ t.answer t.leaves (kept_mend o code m₀ laws h node n m (mend_passed size code m node n t.passed).2 f t.clear c)
      | inr t ↦ refused h (mend node) n r _ m m' c t
    ]

    -- no check but those of the field and the store can fail for them
    pub suited_step : (a : Ask F) (n : ℕ) (r : Result (Answer F) CallFault) (m m' : Meaning F) → fits code m ≡ true → Step o size code a n r m m' → Suited r
    unfolding Step SetDone PutDone FetchDone FetchedBy LoseDone RefreshDone MendDone found found_answer set_decline node_decline put_decline fetch_decline mend_decline
    suited_step (set xs) n r m m' f s =
        suited_outcome _ _ _ _ _ _ _ (others_suited size code m _ large f (others_cond (eqb (length xs) (code.rows * code.columns)) _ _ others_none other_length)) (plain_outcome Set _ _ Counted _ _ s.0 r m' s.1 s.2 [] (λ i j. clear_none m))
    suited_step (put row column x) n r m m' f s =
        suited_outcome _ _ _ _ _ _ _ (others_suited size code m _ large f (others_cond (ltb row code.rows && ltb column code.columns) _ _ others_none other_range)) (sheet_outcome Put _ _ _ Counted _ _ s.0 r m' s.1 s.2)
    suited_step (fetch row column) n r m m' f s =
        suited_outcome _ _ _ _ _ _ _ (others_suited size code m _ large f (others_cond (ltb row code.rows && ltb column code.columns) _ _ (others_cond (leb code.fetch_room n) _ _ others_none other_memory) other_range)) (sheet_outcome Fetch _ _ _ found_answer _ _ s.0 r m' s.1 s.2)
    suited_step (lose node) n r m m' f s =
        suited_outcome _ _ _ _ _ _ _ (others_suited size code m _ large f (others_cond (ltb node code.nodes) _ _ others_none other_range)) (plain_outcome Lose _ _ Cleared _ _ s.0 r m' s.1 s.2 [] (λ i j. clear_none m))
    suited_step (refresh node) n r m m' f s =
        suited_outcome _ _ _ _ _ _ _ (others_suited size code m _ large f (others_cond (ltb node code.nodes) _ _ others_none other_range)) (plain_outcome Refresh _ _ Cleared _ _ s.0 r m' s.1 s.2 [] (λ i j. clear_none m))
    suited_step (mend node) n r m m' f s =
        suited_outcome _ _ _ _ _ _ _ (others_suited size code m _ large f (others_cond (ltb node code.nodes) _ _ (others_cond (leb (code.mend_room node) n) _ _ (others_cond (lost code m node) _ _ others_none other_lost) other_memory) other_range)) (sheet_outcome Mend _ _ _ Counted _ _ s.0 r m' s.1 s.2)

    -- what an accepted mend leaves in its node, and on the meters
    whole_at : (node : ℕ) (m : Meaning F) (i : ℕ) → i < code.rows → (s : F) × ((mended o.zero code m node).symbol i node ≡ Some s)
    unfolding mended painted in_node
    whole_at node m i l = (_, cond-true (ltb i code.rows && eqb node node) _ _ (and_from (ltb i code.rows) (eqb node node) (lt-ltb i code.rows l) (eq-eqb node node refl)))

    meter_at : (node : ℕ) (m : Meaning F) (i j : ℕ) → (mended o.zero code m node).meter i j ≡ cond (listed (mend_sheet code m node) (at i j)) (m.meter i j + 1) (m.meter i j)
    unfolding mended painted raised
    meter_at node m i j = refl

    -- a mend of a node that alone is lost finds no place of its sheet blank or worn
    mend_clear : (node : ℕ) (m : Meaning F) → fits code m ≡ true → AloneLost code m node → Unworn m (mend_sheet code m node) → Clear m (mend_recipe code m node).entries
    unfolding mend_recipe mend_sheet sheet_of Unworn lost
    mend_clear node m f alone unworn i j l =
        let v = (laws.mends (blanks m) node 0 alone.within laws.some_row).inside i j l in
        let apart : j ≡ node → ⊥ = λ q. laws.mends_apart (blanks m) node i alone.within (subst (λ t. listed (places_of (code.mend (blanks m) node).entries) (at i t) ≡ true) q l) in
        let s = unlost m j code.rows (alone.others j v.1 apart) i v.0 in
        let w = unworn i j (listed_distinct (places_of (code.mend (blanks m) node).entries) (at i j) ∙ l) in
        (s.0, probed_held m i j s.0 (fits_on code m i j f v.0 v.1) s.1 w)

    mend_accepted : (node n : ℕ) (r : Result (Answer F) CallFault) (m m' : Meaning F) → fits code m ≡ true → Step o size code (mend node) n r m m' → AloneLost code m node → Unworn m (mend_sheet code m node) → code.mend_room node ≤ n → (a : Answer F) × (r ≡ Ok a)
    unfolding Step MendDone mapped Sheeted
    mend_accepted node n r m m' f s alone unworn room =
        go (mend_decline size code m node n) (mend_open size code m node n large f alone.within room alone.blank) s.2
      where
        go : (d : Option Reason) → d ≡ None → Sheeted Mend d m (mend_recipe code m node).entries (length (mend_sheet code m node)) (mended o.zero code m node) s.0 m' → (a : Answer F) × (r ≡ Ok a)
        go None e (inl t) = (Counted (length (mend_sheet code m node)), s.1 ∙ ap (mapped Counted) t.answer)
        go None e (inr t) =
            let c = mend_clear node m f alone unworn t.entry.place.row t.entry.place.node (entry_listed (mend_recipe code m node).entries t.index t.entry t.within t.on_sheet) in
            let a = c.1 in
            let b = t.declined in
            cc
        go (Some x) e t = cc

    -- an accepted answer leaves what acceptance leaves
    mend_latest : (node n : ℕ) (r : Result (Answer F) CallFault) (m m' : Meaning F) → fits code m ≡ true → Step o size code (mend node) n r m m' → MendClaims code node n r m m'
    unfolding Step MendDone Held
    mend_latest node n r m m' f s = elim (sheet_outcome Mend _ _ _ Counted _ _ s.0 r m' s.1 s.2) [
      | inl t ↦
          record {
            accepted = mend_accepted node n r m m' f s;
            whole = λ a q i l. let w = whole_at node m i l in (w.0, ap (λ x. x.symbol i node) t.leaves ∙ w.1);
            count = λ a q. let e = t.answer in cc;
            meters = λ a q i j. ap (λ x. x.meter i j) t.leaves ∙ meter_at node m i j;
          }
      | inr t ↦
          let none : (a : Answer F) → r ≡ Ok a → ⊥ = λ a q. let e = t.answer in cc in
          record { accepted = mend_accepted node n r m m' f s; whole = λ a q. absurd (none a q); count = λ a q. absurd (none a q); meters = λ a q. absurd (none a q) }
    ]

    pub latest_step : (h : List (Event F)) (a : Ask F) (n : ℕ) (r : Result (Answer F) CallFault) (m m' : Meaning F) → fits code m ≡ true → Claims o code m₀ h m → Step o size code a n r m m' → Latest o code a n r h m m'
    unfolding Step SetDone FetchDone FetchedBy found found_answer Latest Held array_set painted in_array
    latest_step h (set xs) n r m m' f c s = λ a q i j li lj. elim (plain_outcome Set _ _ Counted _ _ s.0 r m' s.1 s.2 [] (λ i j. clear_none m)) [
      | inl t ↦ (
        code.symbol (data_of o.zero code xs) i j,
        ap (λ x. x.symbol i j) t.leaves ∙ cond-true (ltb i code.rows && ltb j code.nodes) _ (m.symbol i j) (and_from (ltb i code.rows) (ltb j code.nodes) (lt-ltb i code.rows li) (lt-ltb j code.nodes lj)),
      )
      | inr t ↦ let e = t.answer in cc
    ]
    latest_step h (put row column x) n r m m' f c s = tt
    latest_step h (fetch row column) n r m m' f c s = λ a q. elim (sheet_outcome Fetch _ _ _ found_answer _ _ s.0 r m' s.1 s.2) [
      | inl t ↦
          let b = fetch_passed size code m row column n t.passed in
          let e = t.answer in
          (length (sheet_of (fetch_recipe code m row column).entries), given_by o.zero m (fetch_recipe code m row column) row, cc, fetched_right o code m₀ laws h row column m b.2 b.3 t.clear c)
      | inr t ↦ let e = t.answer in cc
    ]
    latest_step h (lose node) n r m m' f c s = tt
    latest_step h (refresh node) n r m m' f c s = tt
    latest_step h (mend node) n r m m' f c s = mend_latest node n r m m' f s

  module _ (laws : code.field_size ≤ size → CodeLaws o code) where
    pub claims : (m₀ m : Meaning F) (h : List (Event F)) → Leads o size code m₀ h m → Claims o code m₀ h m
    unfolding Leads
    claims m₀ m [] l = kept_made o code m₀ size m l
    claims m₀ m (e ∷ h) l =
        let p = made_suited m₀ h l.0 l.1 in
        let c = claims m₀ l.0 h l.1 in
        claims_step (laws p.0) m₀ p.0 h e.ask e.room e.answer l.0 m (still_fits m₀ l.0 p.1 c.sizes) c l.2

    -- a call that meets its contract extends every history
    pub served : (e : Event F) (m m' : Meaning F) → Step o size code e.ask e.room e.answer m m' → Extends o size code e m m'
    unfolding Extends Leads
    served e m m' s m₀ h l =
        let p = made_suited m₀ h m l in
        let c = claims m₀ m h l in
        let f = still_fits m₀ m p.1 c.sizes in
        record {
          leads = (m, l, s);
          claims = claims_step (laws p.0) m₀ p.0 h e.ask e.room e.answer m m' f c s;
          latest = latest_step (laws p.0) m₀ p.0 h e.ask e.room e.answer m m' f c s;
          suited = suited_step (laws p.0) m₀ p.0 e.ask e.room e.answer m m' f s;
        }
