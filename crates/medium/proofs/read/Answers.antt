use Rattle.std.proofs.Common.{length}
use Rattle.store.specs.Laid.{laid}
use Rattle.medium.proofs.Found.{place_lies, place_beyond}
use Rattle.medium.proofs.Calls.{answered_found, leaves_read}
use Rattle.medium.proofs.read.Goals as goal

pub raise-requires-clause-lies : goal.raise-requires-clause-lies
raise-requires-clause-lies g c =
    let s = c.args.shape in
    let m = laid s.rows s.nodes g.M.Medium.life (g.M.Medium.symbols c.args.units.now) (g.M.Medium.meters c.args.units.now) in
    let e = answered_found m c.args.row c.args.node _ c.in_ok-x.ensures in
    place_lies s.rows s.nodes c.args.row c.args.node _ e g.M.Medium.each (length c.args.units.now) c.requires

pub returns-clause-leaves : goal.returns-clause-leaves
returns-clause-leaves g c = let s = c.args.shape in leaves_read s.rows s.nodes g.M.Medium.life _ _ _ _ c.args.row c.args.node _ c.in_ok-x.ensures c.raise.ensures.symbols c.raise.ensures.meters

pub returns-clause-beyond : goal.returns-clause-beyond
returns-clause-beyond g c =
    let s = c.args.shape in
    let m = laid s.rows s.nodes g.M.Medium.life (g.M.Medium.symbols c.args.units.now) (g.M.Medium.meters c.args.units.now) in
    let e = answered_found m c.args.row c.args.node _ c.in_ok-x.ensures in
    place_beyond s.rows s.nodes c.args.row c.args.node _ e g.M.Medium.each _ _ c.raise.ensures.beyond
