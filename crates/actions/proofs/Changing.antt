-- The loop that changes the places of a patch one by one.
use Rattle.std.proofs.Common.{◌≡◌, ℕ, ◌+◌, Bool, true, false, cond, ◌&&◌, ◌||◌, List, [], ◌∷◌, ◌++◌, get_or, Some, None, Err, Option, append_assoc, sym, refl, ap, ◌∙◌, ap₂}
use mathlib.Core.Path.{fun_ext}
use Rattle.std.specs.Option.{MatchOption}
use Rattle.std.proofs.lemmas.List.{append-nil}
use Rattle.std.proofs.lemmas.Bool.{cond-false}
use Rattle.field.specs.Laws.{Operations}
use Rattle.store.specs.Meaning.{Meaning, on, probed, judged, fault, written}
use Rattle.store.specs.declared.fault.Cause.TheVariants.{OffStore}
use Rattle.store.specs.Meaning as store
use Rattle.sheet.specs.declared.place.Place.{Place}
use Rattle.sheet.specs.declared.place.Entry.{Entry}
use Rattle.sheet.specs.Places.{at, same_place, listed, distinct, places_of}
use Rattle.code.specs.Codes.{Change}
use Rattle.calls.specs.Calls.{patched}
use Rattle.sheet.proofs.Lists.{listed_push, same_place_path, listed_mid, once_new, places_append}
use Rattle.calls.specs.Reading.{symbol_at, or_else, raised, painted}
use Rattle.reading.specs.Checks.{Clear, Readable}
use Rattle.reading.proofs.Checking.{probed_on}
use Rattle.reading.proofs.Gathering.{raised_none, raised_push}
use Rattle.actions.specs.Patching.{changed, first_difference, patched_by}
use Rattle.actions.proofs.Painting.{painted_none, painted_ext}

with_both : {F : Type 0} → Meaning F → (ℕ → ℕ → Option F) → (ℕ → ℕ → ℕ) → Meaning F
with_both m f g = record { rows = m.rows; nodes = m.nodes; life = m.life; symbol = f; meter = g }

module _ {F : Type 0} (o : Operations F) (m : Meaning F) (weight : ℕ → ℕ → F) (difference : F) where
  -- the symbol that a place gets
  abbrev next : ℕ → ℕ → F
  next i j = o.sum (symbol_at o.zero m i j) (o.product (weight i j) difference)

  pub changed_none : m ≡ changed o m [] weight difference
  unfolding changed listed
  changed_none = sym (painted_none (raised m []) (λ i j. false) (λ i j. o.sum (symbol_at o.zero m i j) (o.product (weight i j) difference)) (λ i j. refl) ∙ raised_none m)

  -- a place that is not changed yet
  module _ (ps : List Place) (p : Place) (new : listed ps p ≡ false) (m₁ : Meaning F) (front : m₁ ≡ changed o m ps weight difference) where
    pub old_symbol : symbol_at o.zero m₁ p.row p.node ≡ symbol_at o.zero m p.row p.node
    unfolding symbol_at changed painted raised
    old_symbol = ap (λ x. or_else o.zero (x.symbol p.row p.node)) front ∙ ap (or_else o.zero) (cond-false (listed ps p) (Some (next p.row p.node)) (m.symbol p.row p.node) new)

    pub still_readable : Readable m p.row p.node → Readable m₁ p.row p.node
    unfolding changed painted raised
    still_readable c = (
      c.0,
      ap (λ x. probed x p.row p.node) front
          ∙ ap₂ (λ s t. cond (on m p.row p.node) (judged s t m.life p.row p.node) (Err (fault p.row p.node OffStore)))
          (cond-false (listed ps p) (Some (next p.row p.node)) (m.symbol p.row p.node) new)
          (cond-false (listed ps p) (m.meter p.row p.node + 1) (m.meter p.row p.node) new)
          ∙ c.1,
    )

    pub changed_more : (m₂ m₃ : Meaning F) (s : F) → on m p.row p.node ≡ true → m₂ ≡ raised m₁ (p ∷ []) → s ≡ o.sum (symbol_at o.zero m₁ p.row p.node) (o.product (weight p.row p.node) difference) → m₃ ≡ written m₂ p.row p.node s → m₃ ≡ changed o m (ps ++ (p ∷ [])) weight difference
    unfolding changed painted raised with_both
    changed_more m₂ m₃ s here e q l =
        l ∙ ap₂ (λ x y. written x p.row p.node y) (e ∙ ap (λ x. raised x (p ∷ [])) front) (q ∙ ap (λ y. o.sum y (o.product (weight p.row p.node) difference)) old_symbol)
        ∙ ap (λ b. with_both m (λ i j. cond (b && store.at p.row p.node i j) (Some (next p.row p.node)) (cond (listed ps (at i j)) (Some (next i j)) (m.symbol i j))) (raised (raised m ps) (p ∷ [])).meter) here
        ∙ ap₂ (with_both m) (fun_ext (λ i. fun_ext (λ j. symbols i j (listed ps (at i j)) (same_place (at i j) p) refl ∙ ap (λ b. cond b (Some (next i j)) (m.symbol i j)) (sym (listed_push ps p (at i j)))))) (ap (λ x. x.meter) (raised_push m ps p new))
      where
        same : (i j : ℕ) → same_place (at i j) p ≡ true → next p.row p.node ≡ next i j
        same i j t = ap (λ x. next x.row x.node) (sym (same_place_path (at i j) p t))

        symbols : (i j : ℕ) (a b : Bool) → same_place (at i j) p ≡ b → cond b (Some (next p.row p.node)) (cond a (Some (next i j)) (m.symbol i j)) ≡ cond (a || (b || false)) (Some (next i j)) (m.symbol i j)
        symbols i j true true t = ap Some (same i j t)
        symbols i j false true t = ap Some (same i j t)
        symbols i j true false t = refl
        symbols i j false false t = refl

-- what the loop has done once it has gone through the places of `front`: from the first of them it knows the difference
pub record Front {F : Type 0} (o : Operations F) (m : Meaning F) (ps : List Place) (weight : ℕ → ℕ → F) (x : F) (front : List Place) (m₁ : Meaning F) (difference : Option F) : Type 0 where
  pub leaves : m₁ ≡ changed o m front weight (first_difference o m ps x)
  pub known : MatchOption difference (front ≡ []) (λ d. d ≡ first_difference o m ps x)

module _ {F : Type 0} {o : Operations F} {m : Meaning F} {weight : ℕ → ℕ → F} {x : F} where
  pub front_none : (ps : List Place) → Front o m ps weight x (places_of []) m None
  unfolding places_of
  front_none ps = record { leaves = changed_none o m weight (first_difference o m ps x); known = refl }

  module _ {es left rest : List Entry} {e : Entry} {m₁ : Meaning F} {d : Option F} (front : List Entry) (clear : Clear m (places_of es)) (once : distinct (places_of es) ≡ places_of es) (whole : front ++ left ≡ es) (step : left ≡ e ∷ rest) (f : Front o m (places_of es) weight x (places_of front) m₁ d) where
    parted : places_of es ≡ places_of front ++ (e.place ∷ places_of rest)
    unfolding places_of
    parted = ap places_of (sym whole ∙ ap (λ t. front ++ t) step) ∙ places_append front (e ∷ rest)

    new : listed (places_of front) e.place ≡ false
    new = once_new (places_of front) e.place (places_of rest) (sym (ap distinct parted) ∙ once ∙ parted)

    pub on_patch : listed (places_of es) e.place ≡ true
    on_patch = ap (λ t. listed t e.place) parted ∙ listed_mid (places_of front) e.place (places_of rest)

    readable_here : Readable m e.place.row e.place.node
    readable_here = clear e.place.row e.place.node on_patch

    pub front_readable : Readable m₁ e.place.row e.place.node
    front_readable = still_readable o m weight (first_difference o m (places_of es) x) (places_of front) e.place new m₁ f.leaves readable_here

    pub whole_more : (front ++ (e ∷ [])) ++ rest ≡ es
    whole_more = append_assoc front (e ∷ []) rest ∙ ap (λ t. front ++ t) (sym step) ∙ whole

    -- the first place gives the difference
    pub front_difference : (old d' : F) → old ≡ symbol_at o.zero m₁ e.place.row e.place.node → MatchOption d (d' ≡ o.difference x old) (λ y. d' ≡ y) → d' ≡ first_difference o m (places_of es) x
    unfolding first_difference
    front_difference old d' was given = go d f.known given
      where
        at-first : places_of front ≡ [] → e.place ≡ get_or (places_of es) 0 (at 0 0)
        at-first q = sym (ap (λ t. get_or t 0 (at 0 0)) (parted ∙ ap (λ t. t ++ (e.place ∷ places_of rest)) q))

        go : (t : Option F) → MatchOption t (places_of front ≡ []) (λ y. y ≡ o.difference x (symbol_at o.zero m (get_or (places_of es) 0 (at 0 0)).row (get_or (places_of es) 0 (at 0 0)).node)) → MatchOption t (d' ≡ o.difference x old) (λ y. d' ≡ y) → d' ≡ o.difference x (symbol_at o.zero m (get_or (places_of es) 0 (at 0 0)).row (get_or (places_of es) 0 (at 0 0)).node)
        go None q h = h ∙ ap (o.difference x) (was ∙ old_symbol o m weight (first_difference o m (places_of es) x) (places_of front) e.place new m₁ f.leaves ∙ ap (λ y. symbol_at o.zero m y.row y.node) (at-first q))
        go (Some y) q h = h ∙ q

    pub front_more : (m₂ m₃ : Meaning F) (old s d' : F) → m₂ ≡ raised m₁ (e.place ∷ []) → old ≡ symbol_at o.zero m₁ e.place.row e.place.node → d' ≡ first_difference o m (places_of es) x → s ≡ o.sum old (o.product (weight e.place.row e.place.node) d') → m₃ ≡ written m₂ e.place.row e.place.node s → Front o m (places_of es) weight x (places_of (front ++ (e ∷ []))) m₃ (Some d')
    unfolding places_of
    front_more m₂ m₃ old s d' r was known-d value l =
        record {
          leaves =
              changed_more o m weight (first_difference o m (places_of es) x) (places_of front) e.place new m₁ f.leaves m₂ m₃ s (probed_on m e.place.row e.place.node readable_here.0 readable_here.1) r (value ∙ ap₂ (λ u v. o.sum u (o.product (weight e.place.row e.place.node) v)) was known-d) l
              ∙ ap (λ qs. changed o m qs weight (first_difference o m (places_of es) x)) (sym (places_append front (e ∷ [])));
          known = known-d;
        }

  pub front_all : {es left : List Entry} {m₁ : Meaning F} {d : Option F} (front : List Entry) → front ++ left ≡ es → left ≡ [] → Front o m (places_of es) weight x (places_of front) m₁ d → m₁ ≡ patched_by o m (places_of es) weight x
  unfolding patched_by
  front_all {es = es} front whole none f = f.leaves ∙ ap (λ t. changed o m (places_of t) weight (first_difference o m (places_of es) x)) (sym (append-nil front) ∙ ap (λ t. front ++ t) (sym none) ∙ whole)

-- a patch of the code's change
pub patched_is : {F : Type 0} (o : Operations F) (m : Meaning F) (c : Change F) (es : List Entry) (weight : ℕ → ℕ → F) (row column : ℕ) (x : F) → es ≡ c.entries → ((i j : ℕ) → listed (places_of es) (at i j) ≡ true → weight i j ≡ c.weight i j) → ((rest : List Place) × (places_of c.entries ≡ at row column ∷ rest)) → patched_by o m (places_of es) weight x ≡ patched o m c row column x
unfolding patched_by changed first_difference patched
patched_is o m c es weight row column x e same first =
    let start : get_or (places_of es) 0 (at 0 0) ≡ at row column = ap (λ t. get_or (places_of t) 0 (at 0 0)) e ∙ ap (λ t. get_or t 0 (at 0 0)) first.1 in
    ap (λ q. changed o m (places_of es) weight (o.difference x (symbol_at o.zero m q.row q.node))) start
    ∙ painted_ext (raised m (places_of es)) (λ i j. listed (places_of es) (at i j)) (λ i j. o.sum (symbol_at o.zero m i j) (o.product (weight i j) (o.difference x (symbol_at o.zero m row column)))) (λ i j. o.sum (symbol_at o.zero m i j) (o.product (c.weight i j) (o.difference x (symbol_at o.zero m row column)))) (λ i j l. ap (λ w. o.sum (symbol_at o.zero m i j) (o.product w (o.difference x (symbol_at o.zero m row column)))) (same i j l))
    ∙ ap (λ t. painted (raised m (places_of t)) (λ i j. listed (places_of t) (at i j)) (λ i j. o.sum (symbol_at o.zero m i j) (o.product (c.weight i j) (o.difference x (symbol_at o.zero m row column))))) e
