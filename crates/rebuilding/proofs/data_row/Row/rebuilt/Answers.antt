use Rattle.std.proofs.Common.{◌≡◌, ◌∙◌, sym, refl, subst, get_or, Ok}
use Rattle.std.specs.Result.{IsOk}
use Rattle.field.specs.declared.decimal.Decimal.TheVariants.{Zero}
use Rattle.rebuilding.proofs.Regaining.{regains}
use Rattle.rebuilding.proofs.data_row.Row.rebuilt.Goals as goal

pub unwrap-requires : goal.unwrap-requires
unwrap-requires c =
    let row = c.args.self.now in
    subst IsOk (sym (regains row.symbols.now row.last c.args.j c.args.numbers.now c.deref.result.now c.rebuild.result row.small c.requires.place row.follows c.requires.numbers (c.deref.ensures.value ∙ c.in_ok-values.ensures) c.rebuild.ensures.any)) refl

pub returns : goal.returns
returns c =
    let row = c.args.self.now in
    let back : c.rebuild.result ≡ Ok (get_or row.symbols.now c.args.j Zero)
    = regains row.symbols.now row.last c.args.j c.args.numbers.now c.deref.result.now c.rebuild.result row.small c.requires.place row.follows c.requires.numbers (c.deref.ensures.value ∙ c.in_ok-values.ensures) c.rebuild.ensures.any in
    cc (back, c.unwrap.ensures)
