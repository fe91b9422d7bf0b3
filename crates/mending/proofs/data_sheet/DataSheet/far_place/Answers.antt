use Rattle.std.proofs.Common.{◌≡◌, ◌+◌, eqb, arith}
use Rattle.std.proofs.lemmas.Bool.{cond-true, eq-eqb}
use Rattle.array.specs.Layout.{reach, wrap, skip}
use Rattle.sheet.specs.Places.{at}
use Rattle.array.specs.Sheet.{far_places}
use Rattle.array.proofs.Parts.{far_local}
use Rattle.array.proofs.Indexed.{at_read, far_row_at}
use Rattle.mending.proofs.data_sheet.DataSheet.far_place.Goals as goal

pub returns-then-shape-eq0 : goal.returns-then-shape-eq0
returns-then-shape-eq0 c =
    let s = c.args.self.parameters in
    let j = c.args.self.node in
    let x = c.args.x in
    let z : s.b ≡ 0 = omega arith in
    let w = cond-true (eqb s.b 0) s.k (reach s) (eq-eqb s.b 0 z) in
    let h = at_read (far_places s j x) c.args.l (at (wrap s (j + x)) (skip j c.args.l)) (at c.wrap-row.result c.skip.result) (far_row_at s j x c.args.l z (omega arith)) in
    cc

pub returns-else-shape-eq0 : goal.returns-else-shape-eq0
returns-else-shape-eq0 c =
    let e = far_local c.args.self.parameters c.args.self.node c.args.x (omega arith) in
    cc
