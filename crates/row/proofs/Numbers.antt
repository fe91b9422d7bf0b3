-- Symbols with different numbers differ.
use Rattle.std.proofs.Common.{◌≡◌, ℕ, ◌<◌, Option, sym, ap, ◌∙◌}
use Rattle.field.specs.Laws.{Numbering}
use Rattle.row.specs.Numbered.{or_else, numbered}

module _ {F : Type 0} (z : F) (size : ℕ) (symbol : ℕ → Option F) (number : F → ℕ) (l : Numbering size symbol number) where
  pub number_numbered : (n : ℕ) → n < size → number (numbered z symbol n) ≡ n
  number_numbered n h = let s = l.number_symbol n h in ap (λ o. number (or_else z o)) s.1 ∙ s.2

  pub numbered_apart : (i j : ℕ) → i < size → j < size → numbered z symbol i ≡ numbered z symbol j → i ≡ j
  numbered_apart i j hi hj e = sym (number_numbered i hi) ∙ ap number e ∙ number_numbered j hj
