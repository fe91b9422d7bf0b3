-- One call more.
use Rattle.std.proofs.Common.{◌≡◌, ℕ, Bool, true, false, cond, leb, List, [], ◌∷◌, ◌++◌, map, Ok, Err, Result, sym, refl, ap, ◌∙◌}
use Rattle.field.specs.Laws.{Operations}
use Rattle.store.specs.Meaning.{Meaning}
use Rattle.code.specs.Codes.{CodeMeaning}
use Rattle.calls.specs.declared.call.Call.{Call}
use Rattle.calls.specs.declared.call.Answer.{Answer}
use Rattle.calls.specs.declared.call.CallFault.{CallFault}
use Rattle.calls.specs.History.{Ask, asked, Event}
use Rattle.calls.specs.Theorem.{Extends, Begun}
use Rattle.calls.specs.Calls.{fits}
use Rattle.engine.specs.Making.{make_answer}
use Rattle.engine.specs.declared.make.MakeFault.TheVariants.{SmallField, SmallStore}
use Rattle.tour.specs.Tour.{Reached, Onward, asks_of, asked_after}

asked_push : {F : Type 0} (calls : List (Call F)) (c : Call F) (earlier : List (Ask F)) → asked_after (calls ++ (c ∷ [])) earlier ≡ asked c ∷ asked_after calls earlier
unfolding asked_after
asked_push [] c earlier = refl
asked_push (x ∷ calls) c earlier = asked_push calls c (asked x ∷ earlier)

module _ {F : Type 0} (o : Operations F) (size : ℕ) (code : CodeMeaning F) where
  pub reached_begun : (m₀ m : Meaning F) → Begun o size code m₀ m → Reached o size code m₀ m
  reached_begun m₀ m b = record { history = []; leads = b.leads; claims = b.claims }

  pub reached_more : (m₀ m m' : Meaning F) (e : Event F) → Reached o size code m₀ m → Extends o size code e m m' → Reached o size code m₀ m'
  unfolding Extends
  reached_more m₀ m m' e r x = let t = x m₀ r.history r.leads in record { history = e ∷ r.history; leads = t.leads; claims = t.claims }

  pub onward_none : (m : Meaning F) → Onward o size code [] m m
  unfolding Onward asked_after
  onward_none m m₀ h l c = record { history = h; asks = refl; leads = l; claims = c }

  pub onward_more : (calls : List (Call F)) (c : Call F) (m m₁ m₂ : Meaning F) (n : ℕ) (r : Result (Answer F) CallFault) → Onward o size code calls m m₁ → Extends o size code (record { ask = asked c; room = n; answer = r }) m₁ m₂ → Onward o size code (calls ++ (c ∷ [])) m m₂
  unfolding Onward Extends asks_of
  onward_more calls c m m₁ m₂ n r on x m₀ h l k =
      let t = on m₀ h l k in
      let u = x m₀ t.history t.leads in
      record {
        history = record { ask = asked c; room = n; answer = r } ∷ t.history;
        asks = ap (λ b. asked c ∷ b) t.asks ∙ sym (asked_push calls c (map (λ e. e.ask) h));
        leads = u.leads;
        claims = u.claims;
      }

-- the engine that is made has the code that was given
pub made_engine : {A F : Type 0} (size : ℕ) (code : CodeMeaning F) (m : Meaning F) (e x : A) → Ok e ≡ make_answer size code m x → e ≡ x
unfolding make_answer
made_engine size code m e x h = go (leb code.field_size size) (fits code m) h
  where
    go : (a b : Bool) → Ok e ≡ cond a (cond b (Ok x) (Err SmallStore)) (Err SmallField) → e ≡ x
    go true true q = cc
    go true false q = cc
    go false b q = cc
