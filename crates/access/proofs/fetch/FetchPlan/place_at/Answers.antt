use Rattle.std.proofs.Common.{◌<◌, arith}
use Rattle.std.proofs.lemmas.Bool.Decides.{nat_tests}
use Rattle.access.specs.Fetch.{fetch_places}
use Rattle.access.proofs.FetchIndex.{places_length, row_read}
use Rattle.access.proofs.fetch.FetchPlan.place_at.Goals as goal

pub returns-in-OwnRow : goal.returns-in-OwnRow
unfolding fetch_places
returns-in-OwnRow c =
    let s = c.args.self.place in
    let n = places_length s.parameters s.row s.column s.inside.0 s.inside.1 in
    let b : c.args.l < s.parameters.k = grind (arith, nat_tests) in
    let e = row_read s.parameters s.row s.column c.args.l c.skip.result b c.skip.ensures in
    grind (arith, nat_tests)
