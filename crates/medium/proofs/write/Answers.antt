use Rattle.std.proofs.Common.{length}
use Rattle.medium.proofs.Found.{place_lies, place_beyond}
use Rattle.medium.proofs.Calls.{leaves_write}
use Rattle.medium.proofs.write.Goals as goal

pub put-requires : goal.put-requires
put-requires g c = let s = c.args.shape in place_lies s.rows s.nodes c.args.row c.args.node c.in_ok-spot.spot c.in_ok-spot.ensures g.M.Medium.each (length c.args.units.now) c.requires

pub returns-clause-leaves : goal.returns-clause-leaves
returns-clause-leaves g c = let s = c.args.shape in leaves_write s.rows s.nodes g.M.Medium.life _ _ _ _ c.args.row c.args.node c.in_ok-spot.spot c.args.x c.in_ok-spot.ensures c.put.ensures.symbols c.put.ensures.meters

pub returns-clause-beyond : goal.returns-clause-beyond
returns-clause-beyond g c = let s = c.args.shape in place_beyond s.rows s.nodes c.args.row c.args.node c.in_ok-spot.spot c.in_ok-spot.ensures g.M.Medium.each _ _ c.put.ensures.beyond
