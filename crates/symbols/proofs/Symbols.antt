-- Words read as symbols, one by one. Assumes nothing.
use Rattle.std.proofs.Common.{◌≡◌, ℕ, ◌+◌, List, [], ◌∷◌, ◌++◌, map, length, get_or, Some, None, Err, Option, Result, Vec, sym, ap, ◌∙◌, subst, ◌≢◌, arith, MatchOption}
use Rattle.std.proofs.lemmas.List.{length-map, length-append, get_or_at}
use Rattle.text.specs.Words.{Placed, texts}
use Rattle.std.specs.Option.{ok_or}
use Rattle.std.specs.declared.alloc.Global.{Global}
use Rattle.symbols.specs.declared.reading.SymbolFault.{SymbolFault}
use Rattle.symbols.specs.declared.reading.SymbolFault.TheVariants.{NotSymbol}
use Rattle.symbols.specs.Reading.{NoSymbol, Writes}

module _ {S : Type 0} (written : S → List ℕ) (word : List ℕ) where
  unread : (o : Option S) (f : SymbolFault) → MatchOption o ((t : S) → word ≢ written t) (λ t. word ≡ written t) → Err f ≡ ok_or o NotSymbol → (f ≡ NotSymbol) × ((t : S) → word ≢ written t)
  unread (Some t) f h e = cc
  unread None f h e = (cc, h)

module _ {S : Type 0} (written : S → List ℕ) (all rest next : List Placed) (w : Placed) (ss : List S) (h : texts all ≡ map written ss ++ texts rest) (e : rest ≡ w ∷ next) where
  here : texts all ≡ map written ss ++ w.bytes ∷ texts next
  here = h ∙ ap (λ ws. map written ss ++ texts ws) e

  pub stop : ((s : S) → w.bytes ≡ written s → ⊥) → NoSymbol written all
  stop none =
      let long : length all ≡ length ss + (1 + length (texts next)) = sym (length-map all (λ p. p.bytes)) ∙ ap length here ∙ length-append (map written ss) (w.bytes ∷ texts next) ∙ (omega (arith, length-map ss written)) in (
        length ss,
        omega (arith, long),
        λ s is. none s (sym (ap (λ l. get_or l (length ss) []) here ∙ get_or_at (map written ss) w.bytes (texts next) [] (length ss) (length-map ss written)) ∙ is),
      )

  pub stopped : (r : Result (Vec S Global) SymbolFault) (o : Option S) (f : SymbolFault) → MatchOption o ((t : S) → w.bytes ≢ written t) (λ t. w.bytes ≡ written t) → Err f ≡ ok_or o NotSymbol → r ≡ Err f → Writes written all r
  stopped r o f h e is =
      let none = unread written w.bytes o f h e in
      subst (Writes written all) (sym (is ∙ ap Err none.0)) (stop none.1)
