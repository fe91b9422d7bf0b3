-- What a passed test of a call says. Assumes nothing.
use Rattle.std.proofs.Common.{◌≡◌, ℕ, zero, suc, ◌<◌, ◌≤◌, Bool, true, false, cond, ◌&&◌, ◌||◌, eqb, ltb, leb, ◌⊎◌, Some, None, Ok, Err, Option, refl, ap, ◌∙◌, inl, inr, arith}
use Rattle.std.proofs.lemmas.Bool.{leb-true, ltb-true, lt-ltb, le-leb, and_parts, and_from, cond-true, cond-false, cases_eq, ne_eqb}
use Rattle.store.specs.Meaning.{Meaning, on, judged, probed, fault}
use Rattle.store.specs.declared.fault.Cause.TheVariants.{OffStore, Worn}
use Rattle.code.specs.Codes.{CodeMeaning, is_blank}
use Rattle.calls.specs.Calls.{fits, suited, node_decline, put_decline, fetch_decline, mend_decline, lost, any_blank}
use Rattle.calls.specs.declared.call.Reason.{Reason}
use Rattle.calls.specs.declared.call.Reason.TheVariants.{SmallField, SmallStore, OutOfRange, ShortMemory, NotLost}

-- a test that was passed
pub passed : {A : Type 0} (b : Bool) (o : Option A) (x : A) → cond b o (Some x) ≡ None → (b ≡ true) × (o ≡ None)
passed true o x e = (refl, e)
passed false o x e = cc

-- field and store are large enough
pub suited_passed : {F : Type 0} (size : ℕ) (code : CodeMeaning F) (m : Meaning F) (rest : Option Reason) → suited size code m rest ≡ None
    → (code.field_size ≤ size) × (fits code m ≡ true) × (rest ≡ None)
unfolding suited
suited_passed size code m rest e =
    let p = passed (leb code.field_size size) (cond (fits code m) rest (Some SmallStore)) SmallField e in
    let q = passed (fits code m) rest SmallStore p.1 in
    (leb-true code.field_size size p.0, q.0, q.1)

-- and then only the rest counts
pub suited_rest : {F : Type 0} (size : ℕ) (code : CodeMeaning F) (m : Meaning F) (rest : Option Reason) → code.field_size ≤ size → fits code m ≡ true → suited size code m rest ≡ rest
unfolding suited
suited_rest size code m rest l f =
    cond-true (leb code.field_size size) (cond (fits code m) rest (Some SmallStore)) (Some SmallField) (le-leb code.field_size size l)
    ∙ cond-true (fits code m) rest (Some SmallStore) f

-- what each call's checks say once they have passed
module _ {F : Type 0} (size : ℕ) (code : CodeMeaning F) (m : Meaning F) where
  pub node_passed : (node : ℕ) → node_decline size code m node ≡ None → (code.field_size ≤ size) × (fits code m ≡ true) × (node < code.nodes)
  unfolding node_decline
  node_passed node e = let p = suited_passed size code m _ e in (p.0, p.1, ltb-true _ _ (passed _ _ _ p.2).0)

  place_parts : (row column : ℕ) → (ltb row code.rows && ltb column code.columns) ≡ true → (row < code.rows) × (column < code.columns)
  place_parts row column e = let p = and_parts _ _ e in (ltb-true _ _ p.0, ltb-true _ _ p.1)

  pub put_passed : (row column : ℕ) → put_decline size code m row column ≡ None → (code.field_size ≤ size) × (fits code m ≡ true) × (row < code.rows) × (column < code.columns)
  unfolding put_decline
  put_passed row column e = let p = suited_passed size code m _ e in let q = place_parts row column (passed _ _ _ p.2).0 in (p.0, p.1, q.0, q.1)

  pub fetch_passed : (row column n : ℕ) → fetch_decline size code m row column n ≡ None → (code.field_size ≤ size) × (fits code m ≡ true) × (row < code.rows) × (column < code.columns) × (code.fetch_room ≤ n)
  unfolding fetch_decline
  fetch_passed row column n e =
      let p = suited_passed size code m _ e in
      let s = passed _ _ _ p.2 in
      let q = place_parts row column s.0 in
      (p.0, p.1, q.0, q.1, leb-true _ _ (passed _ _ _ s.1).0)

  pub mend_passed : (node n : ℕ) → mend_decline size code m node n ≡ None → (code.field_size ≤ size) × (fits code m ≡ true) × (node < code.nodes) × (code.mend_room node ≤ n)
  unfolding mend_decline
  mend_passed node n e = let p = suited_passed size code m _ e in let s = passed _ _ _ p.2 in (p.0, p.1, ltb-true _ _ s.0, leb-true _ _ (passed _ _ _ s.1).0)

-- a mend that no input and no memory declines
pub mend_open : {F : Type 0} (size : ℕ) (code : CodeMeaning F) (m : Meaning F) (node n : ℕ) → code.field_size ≤ size → fits code m ≡ true → node < code.nodes → code.mend_room node ≤ n → lost code m node ≡ true → mend_decline size code m node n ≡ None
unfolding mend_decline
mend_open size code m node n l f b room blank =
    let inner = cond (lost code m node) None (Some NotLost) in
    let last = cond (leb (code.mend_room node) n) inner (Some ShortMemory) in
    suited_rest size code m (cond (ltb node code.nodes) last (Some OutOfRange)) l f
    ∙ cond-true (ltb node code.nodes) last (Some OutOfRange) (lt-ltb node code.nodes b)
    ∙ cond-true (leb (code.mend_room node) n) inner (Some ShortMemory) (le-leb (code.mend_room node) n room)
    ∙ cond-true (lost code m node) None (Some NotLost) blank

-- the array is on the store
pub fits_parts : {F : Type 0} (code : CodeMeaning F) (m : Meaning F) → fits code m ≡ true → (code.rows ≤ m.rows) × (code.nodes ≤ m.nodes)
unfolding fits
fits_parts code m e = let p = and_parts (leb code.rows m.rows) (leb code.nodes m.nodes) e in (leb-true code.rows m.rows p.0, leb-true code.nodes m.nodes p.1)

pub fits_on : {F : Type 0} (code : CodeMeaning F) (m : Meaning F) (i j : ℕ) → fits code m ≡ true → i < code.rows → j < code.nodes → on m i j ≡ true
fits_on code m i j e li lj =
    let p = fits_parts code m e in
    and_from (ltb i m.rows) (ltb j m.nodes) (lt-ltb i m.rows (omega (arith, p.0))) (lt-ltb j m.nodes (omega (arith, p.1)))

held_some : {F : Type 0} (x : Option F) (meter life row node : ℕ) (s : F) → judged x meter life row node ≡ Ok s → x ≡ Some s
held_some None meter life row node s e = cc
held_some {F} (Some t) meter life row node s e = go (eqb meter life) e
  where
    go : (b : Bool) → cond b (Err (fault row node Worn)) (Ok t) ≡ Ok s → Some t ≡ Some s
    go true q = cc
    go false q = cc

-- what a probe answers is held
pub probed_some : {F : Type 0} (m : Meaning F) (i j : ℕ) (s : F) → probed m i j ≡ Ok s → m.symbol i j ≡ Some s
probed_some {F} m i j s e = go (on m i j) e
  where
    go : (b : Bool) → cond b (judged (m.symbol i j) (m.meter i j) m.life i j) (Err (fault i j OffStore)) ≡ Ok s → m.symbol i j ≡ Some s
    go true h = held_some (m.symbol i j) (m.meter i j) m.life i j s h
    go false h = cc

-- a probe of a place that is on the store, held and not worn
pub probed_held : {F : Type 0} (m : Meaning F) (i j : ℕ) (s : F) → on m i j ≡ true → m.symbol i j ≡ Some s → (m.meter i j ≡ m.life → ⊥) → probed m i j ≡ Ok s
probed_held {F} m i j s o e n =
    cond-true (on m i j) (judged (m.symbol i j) (m.meter i j) m.life i j) (Err (fault i j OffStore)) o
    ∙ ap (λ x. judged x (m.meter i j) m.life i j) e
    ∙ cond-false (eqb (m.meter i j) m.life) (Err (fault i j Worn)) (Ok s) (ne_eqb (m.meter i j) m.life n)

-- a node that is not lost is held in each row
pub unlost : {F : Type 0} (m : Meaning F) (node n : ℕ) → any_blank m node n ≡ false → (i : ℕ) → i < n → (s : F) × (m.symbol i node ≡ Some s)
unfolding any_blank is_blank
unlost m node zero e i l = absurd (omega arith)
unlost {F} m node (suc n) e i l = go (is_blank (m.symbol n node)) refl e (unlost m node n)
  where
    some : (x : Option F) → is_blank x ≡ false → (s : F) × (x ≡ Some s)
    some None q = cc
    some (Some s) q = (s, refl)

    go : (b : Bool) → is_blank (m.symbol n node) ≡ b → (b || any_blank m node n) ≡ false → (any_blank m node n ≡ false → (i : ℕ) → i < n → (s : F) × (m.symbol i node ≡ Some s)) → (s : F) × (m.symbol i node ≡ Some s)
    go true q h rest = cc
    go false q h rest = last (cases_eq i n)
      where
        last : (i ≡ n) ⊎ (i ≡ n → ⊥) → (s : F) × (m.symbol i node ≡ Some s)
        last (inl a) = let t = some (m.symbol n node) q in (t.0, ap (λ k. m.symbol k node) a ∙ t.1)
        last (inr a) = rest h i (omega arith)
