-- The call that serves any call: its step, its history and its memory.
use Rattle.std.proofs.Common.{◌≡◌, ℕ, ◌≤◌, List, Ok, Err, Result, sym, refl, ap, ◌∙◌, subst}
use Rattle.field.specs.Laws.{Operations}
use Rattle.store.specs.Meaning.{Meaning}
use Rattle.sheet.specs.declared.place.Record.{Record}
use Rattle.code.specs.Codes.{CodeMeaning, CodeLaws}
use Rattle.calls.specs.Calls.{SetDone, PutDone, FetchDone, LoseDone, RefreshDone, MendDone, after_memory}
use Rattle.calls.specs.History.{Ask, set, put, fetch, lose, refresh, mend, Step, mapped, found_answer, served_memory}
use Rattle.calls.specs.Theorem.{Extends}
use Rattle.calls.specs.declared.call.Answer.{Answer}
use Rattle.calls.specs.declared.call.Answer.TheVariants.{Counted, Cleared}
use Rattle.calls.specs.declared.call.Found.{Found}
use Rattle.calls.specs.declared.call.CallFault.{CallFault}
use Rattle.calls.proofs.Histories.{served}

pub mapped_err : {A B : Type 0} (f : A → B) (r : Result B CallFault) (y e : CallFault) → r ≡ Err y → y ≡ e → r ≡ mapped f (Err e)
unfolding mapped
mapped_err f r y e p q = p ∙ ap Err q

after_mapped : {A B F : Type 0} (z : F) (f : A → B) (q : Result A CallFault) (memory : List (Record F)) → after_memory z q memory ≡ after_memory z (mapped f q) memory
unfolding mapped after_memory
after_mapped z f (Ok a) memory = refl
after_mapped z f (Err e) memory = refl

-- what is promised of a served call
pub record Served {F : Type 0} (o : Operations F) (size : ℕ) (code : CodeMeaning F) (a : Ask F) (n : ℕ) (r : Result (Answer F) CallFault) (m m' : Meaning F) (memory memory' : List (Record F)) : Type 0 where
  pub step : Step o size code a n r m m'
  pub history : Extends o size code (record { ask = a; room = n; answer = r }) m m'
  pub kept : memory' ≡ served_memory o.zero a r memory

module _ {F : Type 0} (o : Operations F) (size : ℕ) (code : CodeMeaning F) (laws : code.field_size ≤ size → CodeLaws o code) (a : Ask F) (n : ℕ) (r : Result (Answer F) CallFault) (m m' : Meaning F) (memory memory' : List (Record F)) where
  serves : (b : Ask F) → a ≡ b → Step o size code b n r m m' → memory' ≡ served_memory o.zero b r memory → Served o size code a n r m m' memory memory'
  serves b e s k =
      let t : Step o size code a n r m m' = subst (λ y. Step o size code y n r m m') (sym e) s in
      record { step = t; history = served o size code laws (record { ask = a; room = n; answer = r }) m m' t; kept = k ∙ ap (λ y. served_memory o.zero y r memory) (sym e) }

  pub serves_set : (xs : List F) (q : Result ℕ CallFault) → a ≡ set xs → r ≡ mapped Counted q → SetDone o size code m xs q m' → memory' ≡ memory → Served o size code a n r m m' memory memory'
  unfolding Step served_memory
  serves_set xs q e p d k = serves (set xs) e (q, p, d) k

  pub serves_put : (row column : ℕ) (x : F) (q : Result ℕ CallFault) → a ≡ put row column x → r ≡ mapped Counted q → PutDone o size code m row column x q m' → memory' ≡ memory → Served o size code a n r m m' memory memory'
  unfolding Step served_memory
  serves_put row column x q e p d k = serves (put row column x) e (q, p, d) k

  pub serves_fetch : (row column : ℕ) (q : Result (Found F) CallFault) → a ≡ fetch row column → r ≡ mapped found_answer q → FetchDone o size code m row column n q m' → memory' ≡ after_memory o.zero q memory → Served o size code a n r m m' memory memory'
  unfolding Step served_memory
  serves_fetch row column q e p d k = serves (fetch row column) e (q, p, d) (k ∙ after_mapped o.zero found_answer q memory ∙ ap (λ y. after_memory o.zero y memory) (sym p))

  pub serves_lose : (node : ℕ) (q : Result ℕ CallFault) → a ≡ lose node → r ≡ mapped Cleared q → LoseDone size code m node q m' → memory' ≡ memory → Served o size code a n r m m' memory memory'
  unfolding Step served_memory
  serves_lose node q e p d k = serves (lose node) e (q, p, d) k

  pub serves_refresh : (node : ℕ) (q : Result ℕ CallFault) → a ≡ refresh node → r ≡ mapped Cleared q → RefreshDone size code m node q m' → memory' ≡ memory → Served o size code a n r m m' memory memory'
  unfolding Step served_memory
  serves_refresh node q e p d k = serves (refresh node) e (q, p, d) k

  pub serves_mend : (node : ℕ) (q : Result ℕ CallFault) → a ≡ mend node → r ≡ mapped Counted q → MendDone o size code m node n q m' → memory' ≡ after_memory o.zero q memory → Served o size code a n r m m' memory memory'
  unfolding Step served_memory
  serves_mend node q e p d k = serves (mend node) e (q, p, d) (k ∙ after_mapped o.zero Counted q memory ∙ ap (λ y. after_memory o.zero y memory) (sym p))
