use Rattle.std.proofs.Common.{◌≡◌, ◌++◌, string_bytes}
use Rattle.rebuilding.specs.Report.{place_lines}
use Rattle.rebuilding.proofs.report.push_report.Given as goal

abbrev pub invariant-loop-j : goal.invariant-loop-j
invariant-loop-j l = record {
  right : l.right ≡ l.j;
  lines : string_bytes l.out ≡ string_bytes l.initial.out ++ place_lines l.row.symbols.now l.j;
}
