use Rattle.std.proofs.Common.{◌≡◌, ℕ, ◌+◌, ◌<◌, length, get_or, set, sym, subst, arith}
use Rattle.std.proofs.lemmas.List.Edits.{fill_by_more}
use Rattle.std.proofs.lemmas.List.FromFn.{fill_by_all}
use Rattle.field.specs.declared.decimal.Decimal.TheVariants.{Zero}
use Rattle.row_text.specs.Input.{symbol_at}
use Rattle.row_text.proofs.input.symbols_into.Goals as goal

pub loop-j-preserved : goal.loop-j-preserved
loop-j-preserved c =
    let f = symbol_at c.args.line.now in
    subst (λ v. (i : ℕ) → i < c.loop-j.j + 1 → get_or (set c.loop-j.out c.loop-j.j v) i Zero ≡ f i) (sym c.symbol_on.ensures)
    (fill_by_more f c.loop-j.out c.loop-j.j Zero (omega arith) c.loop-j.invariant)

pub returns : goal.returns
returns c =
    fill_by_all (symbol_at c.args.line.now) c.loop-j.out (length c.args.out.now) Zero c.loop-j.auto.out (λ k h. c.loop-j.invariant k (omega arith))
