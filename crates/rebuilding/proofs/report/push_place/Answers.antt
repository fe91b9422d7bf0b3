use Rattle.std.proofs.Common.{◌++◌, decimal, string_bytes, refl, ◌∙◌, ap₂}
use Rattle.rebuilding.specs.Report.{place_line}
use Rattle.rebuilding.proofs.Writing.{place_written}
use Rattle.rebuilding.proofs.report.push_place.Goals as goal

pub returns : goal.returns
returns c = (
  c.in_ok-back.ensures,
  place_written c.args.j c.deref-2.result.now c.in_ok-back.back _ _ _ _ c.in_ok-write.ensures.bytes (c.in_ok-push_spaced.ensures decimal (λ n. refl)) c.in_ok-writeln.ensures.bytes
      ∙ ap₂ (λ n u. string_bytes c.args.out.now ++ place_line c.args.j n u) (c.deref-2.ensures.value ∙ c.in_ok-numbers.ensures) c.in_ok-back.ensures,
)
