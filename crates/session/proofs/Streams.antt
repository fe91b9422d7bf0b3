-- However the input is cut into chunks, the lines of the whole are answered. Assumes nothing.
use Rattle.std.proofs.Common.{◌≡◌, ℕ, ◌<◌, List, [], ◌∷◌, ◌++◌, map, length, sym, refl, ap, ◌∙◌, subst, append_assoc, append-nil}
use mathlib.Core.List.{map-append}
use Rattle.std.specs.List.{flat_map}
use Rattle.text.specs.Lines.{ended, lines, closed_lines, open_line}
use Rattle.text.specs.Parts.{parts, front, final}
use Rattle.text.proofs.Cuts.{parts_some}
use Rattle.session.specs.Runs.{Runs}
use Rattle.session.specs.Feeding.{kept, Fed, Feeds, Finished}
use Rattle.session.proofs.Runs.{runs_none, runs_append}
use Rattle.session.proofs.Pieces.{front_append, final_append, ended_is, pre, parts_pre, parts_on, free_take, free_final, kept_front, kept_final, kept_ended}

-- after the bytes seen, their closed lines are answered, and the open one is held
pub record Seen {S : Type 0} (answers : S → List ℕ → S → List ℕ → Type 0) (first : S) (seen held : List ℕ) (s : S) (bytes : List ℕ) : Type 0 where
  pub runs : Runs answers (map kept (closed_lines seen)) first s bytes
  pub holds : held ≡ kept (open_line seen)

module _ {S : Type 0} (answers : S → List ℕ → S → List ℕ → Type 0) (first : S) where
  pub step : (seen held chunk h : List ℕ) (s t : S) (x y : List ℕ) → Seen answers first seen held s x → Fed answers held chunk s h t y → Seen answers first (seen ++ chunk) h t (x ++ y)
  step seen held chunk h s t x y before fed =
      let open' = open_line seen in
      let rest = parts 10 chunk in
      let free = free_final 10 seen in
      let cut : parts 10 (held ++ chunk) ≡ pre (kept open') rest = ap (λ l. parts 10 (l ++ chunk)) before.holds ∙ parts_pre 10 (kept open') chunk (free_take 10 5001 open' free) in
      let all : parts 10 (seen ++ chunk) ≡ closed_lines seen ++ pre open' rest = parts_on 10 seen chunk ∙ ap (λ l. closed_lines seen ++ l) (parts_pre 10 open' chunk free) in
      let some : 0 < length (pre open' rest) = subst (λ l. 0 < length l) (parts_pre 10 open' chunk free) (parts_some 10 (open' ++ chunk)) in
      let more : map kept (closed_lines (held ++ chunk)) ≡ map kept (front (pre open' rest)) = ap (λ ps. map kept (front ps)) cut ∙ kept_front open' rest in
      let whole : map kept (closed_lines (seen ++ chunk)) ≡ map kept (closed_lines seen) ++ map kept (front (pre open' rest)) =
      ap (λ ps. map kept (front ps)) all ∙ ap (map kept) (front_append (closed_lines seen) (pre open' rest) some) ∙ map-append kept (closed_lines seen) (front (pre open' rest)) in
      record {
        runs = subst (λ l. Runs answers l first t (x ++ y)) (sym whole) (runs_append answers (map kept (closed_lines seen)) (map kept (front (pre open' rest))) first s t x y before.runs (subst (λ l. Runs answers l s t y) more fed.runs));
        holds = fed.holds ∙ ap (λ ps. kept (final ps)) cut ∙ kept_final open' rest ∙ ap kept (sym (ap final all ∙ final_append (closed_lines seen) (pre open' rest) some));
      }

  steps : (chunks : List (List ℕ)) (seen held h : List ℕ) (s t : S) (x y : List ℕ) → Seen answers first seen held s x → Feeds answers chunks held s h t y → Seen answers first (seen ++ flat_map (λ c. c) chunks) h t (x ++ y)
  steps [] seen held h s t x y before f =
      let same : x ++ y ≡ x = ap (λ l. x ++ l) f.2 ∙ append-nil x in
      subst (λ l. Seen answers first l h t (x ++ y)) (sym (append-nil seen))
      (record { runs = subst (λ b. Runs answers (map kept (closed_lines seen)) first t b) (sym same) (subst (λ u. Runs answers (map kept (closed_lines seen)) first u x) f.1 before.runs); holds = sym f.0 ∙ before.holds })
  steps (c ∷ cs) seen held h s t x y before f =
      let rest = steps cs (seen ++ c) f.0 h f.1 t (x ++ f.2) f.3 (step seen held c f.0 s f.1 x f.2 before f.4) f.5 in
      let same : (x ++ f.2) ++ f.3 ≡ x ++ y = append_assoc x f.2 f.3 ∙ ap (λ l. x ++ l) (sym f.6) in
      subst (λ l. Seen answers first l h t (x ++ y)) (append_assoc seen c (flat_map (λ z. z) cs))
      (subst (λ b. Seen answers first ((seen ++ c) ++ flat_map (λ z. z) cs) h t b) same rest)

  -- and with the last line, all lines of the bytes seen
  pub ends : (seen held : List ℕ) (s t : S) (x y : List ℕ) → Seen answers first seen held s x → Runs answers (ended (held ∷ [])) s t y → Runs answers (map kept (lines seen)) first t (x ++ y)
  ends seen held s t x y before last =
      let one : ended (held ∷ []) ≡ map kept (ended (open_line seen ∷ [])) = ap (λ l. ended (l ∷ [])) before.holds ∙ kept_ended (open_line seen) in
      let all : map kept (lines seen) ≡ map kept (closed_lines seen) ++ map kept (ended (open_line seen ∷ [])) = ap (map kept) (ended_is (parts 10 seen) (parts_some 10 seen)) ∙ map-append kept (closed_lines seen) (ended (open_line seen ∷ [])) in
      subst (λ l. Runs answers l first t (x ++ y)) (sym all)
      (runs_append answers (map kept (closed_lines seen)) (map kept (ended (open_line seen ∷ []))) first s t x y before.runs (subst (λ l. Runs answers l s t y) one last))

  -- before any byte
  pub none_seen : Seen answers first [] [] first []
  none_seen = record { runs = runs_none answers first; holds = refl }

-- the last line, after any chunks that led here
pub finished : {S : Type 0} (answers : S → List ℕ → S → List ℕ → Type 0) (held : List ℕ) (s t : S) (bytes : List ℕ) → Runs answers (ended (held ∷ [])) s t bytes → Finished answers held s t bytes
finished answers held s t bytes last = record {
  last = last;
  whole = λ chunks first before f.
      ends answers first (flat_map (λ c. c) chunks) held s t before bytes (steps answers first chunks [] [] held first s [] before (none_seen answers first) f) last;
}
