use Rattle.std.proofs.Common.{◌≡◌, ◌++◌, length, get_or, string_bytes, sym, ◌∙◌, ap₂, arith}
use denote.Enum.Bare.{same_false}
use Rattle.std.proofs.lemmas.Result.{on_ok_weaker}
use Rattle.field.specs.contracts.decimal.Decimal.{the_type}
use Rattle.field.specs.declared.decimal.Decimal.TheVariants.{Zero}
use Rattle.rebuilding.specs.Report.{row_line, place_line, read_places, place_lines, total_line, report}
use Rattle.rebuilding.proofs.Writing.{after, numbered_more}
use Rattle.rebuilding.proofs.report.push_report.Goals as goal
use Rattle.rebuilding.proofs.report.push_report.Goals.{then-eq, else-eq}

pub loop-j-preserved : goal.loop-j-preserved
loop-j-preserved c =
    let d = c.args.row.now.symbols.now in
    record {
      right = elim c.if-eq.branch [ then-eq w ↦ cc (w.right-is, c.loop-j.invariant.right) | else-eq w ↦ absurd (same_false the_type _ _ (sym c.eq.ensures ∙ w.if-eq.false) c.in_ok-push_place.ensures.0) ];
      lines = numbered_more (λ j. place_line j (read_places (length d) j) (get_or d j Zero)) _ _ _ c.loop-j.j c.loop-j.invariant.lines c.in_ok-push_place.ensures.1;
    }

pub returns : goal.returns
unfolding report total_line
returns c =
    let d = c.args.row.now.symbols.now in
    let k = length d in
    let e : c.loop-j.j ≡ k = omega arith in
    let r : c.loop-j.right ≡ k = c.loop-j.invariant.right ∙ e in
    on_ok_weaker c.writeln.result
    (λ last.
    after (string_bytes c.args.out.now) _ _ (row_line d) (place_lines d c.loop-j.j ++ total_line c.loop-j.right k) c.in_ok-push_row.ensures
    (after _ _ _ (place_lines d c.loop-j.j) (total_line c.loop-j.right k) c.loop-j.invariant.lines last)
    ∙ ap₂ (λ n m. string_bytes c.args.out.now ++ (row_line d ++ (place_lines d n ++ total_line m k))) e r)
    c.writeln.ensures.bytes
