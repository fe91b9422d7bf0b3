-- What a making that the engine accepts or declines says of the parameters and the store. Assumes nothing.
use Rattle.std.proofs.Common.{◌≡◌, ℕ, ◌+◌, ◌≤◌, Bool, true, false, cond, ◌&&◌, ltb, leb, Some, None, Ok, Err, Option, sym, refl, ap, ◌∙◌, arith}
use Rattle.std.proofs.lemmas.Bool.{ltb-false, le-leb, cond-true, cond-false}
use Rattle.field.specs.Laws.{Operations}
use Rattle.store.specs.Meaning.{Meaning}
use Rattle.code.specs.Codes.{CodeMeaning}
use Rattle.array.specs.declared.parameters.Parameters.{Parameters}
use Rattle.array.specs.declared.fault.ParameterFault.{ParameterFault}
use Rattle.array.specs.declared.fault.ParameterFault.TheVariants.{SmallField}
use Rattle.array.specs.Checks.{declined, declined_over, first_fault}
use Rattle.array.specs.Layout.{nodes}
use Rattle.calls.specs.Reading.{blank_below}
use Rattle.calls.specs.Calls.{fits}
use Rattle.engine.specs.Making.{make_answer, make_leaves}
use Rattle.engine.specs.declared.make.MakeFault as engine_fault
use Rattle.repair.specs.TwoClass.{two_class}
use Rattle.repair.specs.declared.fault.MakeFault.TheVariants.{Unfit, SmallStore}
use Rattle.repair.specs.Promise.{make_declined, store_declined, unfit_or}

-- unfit parameters
pub unfit : {F : Type 0} (size k a tau b : ℕ) (m : Meaning F) (f : ParameterFault) → declined_over size k a tau b ≡ Some f → make_declined size k a tau b m ≡ Some (Unfit f)
unfolding make_declined
unfit size k a tau b m f e = ap (λ d. unfit_or d (store_declined k a b m)) e

module _ {A F : Type 0} (size : ℕ) (code : CodeMeaning F) (m : Meaning F) (e : A) where
  -- an accepted making
  pub make_ok : (x : A) → Ok x ≡ make_answer size code m e → (x ≡ e) × (fits code m ≡ true) × (make_leaves size code m ≡ blank_below code.nodes m)
  unfolding make_answer make_leaves
  make_ok x q = go (leb code.field_size size) (fits code m) refl q
    where
      go : (s t : Bool) → fits code m ≡ t → Ok x ≡ cond s (cond t (Ok e) (Err engine_fault.TheVariants.SmallStore)) (Err engine_fault.TheVariants.SmallField)
          → (x ≡ e) × (fits code m ≡ true) × (cond s (cond t (blank_below code.nodes m) m) m ≡ blank_below code.nodes m)
      go true true f h = (cc, f, refl)
      go true false f h = cc
      go false t f h = cc

  -- one declined on a field that is large enough: the store is too small, and nothing changed
  pub make_err : (x : engine_fault.MakeFault) → Err x ≡ make_answer size code m e → code.field_size ≤ size → (x ≡ engine_fault.TheVariants.SmallStore) × (fits code m ≡ false) × (make_leaves size code m ≡ m)
  unfolding make_answer make_leaves
  make_err x q l = go (leb code.field_size size) (le-leb code.field_size size l) (fits code m) refl q
    where
      go : (s : Bool) → s ≡ true → (t : Bool) → fits code m ≡ t → Err x ≡ cond s (cond t (Ok e) (Err engine_fault.TheVariants.SmallStore)) (Err engine_fault.TheVariants.SmallField)
          → (x ≡ engine_fault.TheVariants.SmallStore) × (fits code m ≡ false) × (cond s (cond t (blank_below code.nodes m) m) m ≡ m)
      go false n t f h = cc
      go true n true f h = cc
      go true n false f h = (cc, f, refl)

-- parameters that are fit for a field of this size
pub large : (size k a tau b : ℕ) → declined_over size k a tau b ≡ None → k + a ≤ size
unfolding declined_over
large size k a tau b e = go (declined k a tau b) e
  where
    last : (t : Bool) → ltb size (k + a) ≡ t → cond t (Some SmallField) None ≡ None → k + a ≤ size
    last true f q = cc
    last false f q = ltb-false size (k + a) f

    go : (d : Option ParameterFault) → first_fault d (cond (ltb size (k + a)) (Some SmallField) None) ≡ None → k + a ≤ size
    go None q = last (ltb size (k + a)) refl q
    go (Some x) q = cc

module _ {F : Type 0} (o : Operations F) (symbol : ℕ → F) (size k a tau b : ℕ) (m : Meaning F) (p : Parameters) (ek : p.k ≡ k) (ea : p.a ≡ a) (eb : p.b ≡ b) (fit : declined_over size k a tau b ≡ None) where
  room : fits (two_class o symbol p) m ≡ (leb k m.rows && leb (k + a + b) m.nodes)
  unfolding fits two_class
  room = let e : nodes p ≡ k + a + b = omega arith in ap (λ x. leb x m.rows && leb (nodes p) m.nodes) ek ∙ ap (λ x. leb k m.rows && leb x m.nodes) e

  pub accepted : fits (two_class o symbol p) m ≡ true → make_declined size k a tau b m ≡ None
  unfolding make_declined
  accepted f = ap (λ d. unfit_or d (store_declined k a b m)) fit ∙ cond-true (leb k m.rows && leb (k + a + b) m.nodes) None (Some SmallStore) (sym room ∙ f)

  pub small : fits (two_class o symbol p) m ≡ false → make_declined size k a tau b m ≡ Some SmallStore
  unfolding make_declined
  small f = ap (λ d. unfit_or d (store_declined k a b m)) fit ∙ cond-false (leb k m.rows && leb (k + a + b) m.nodes) None (Some SmallStore) (sym room ∙ f)

  pub blanked : blank_below (two_class o symbol p).nodes m ≡ blank_below (k + a + b) m
  unfolding two_class
  blanked = let e : nodes p ≡ k + a + b = omega arith in ap (λ n. blank_below n m) e

  pub wide_field : (two_class o symbol p).field_size ≤ size
  unfolding two_class
  wide_field = omega (arith, large size k a tau b fit)
