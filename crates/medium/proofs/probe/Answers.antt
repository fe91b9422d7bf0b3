use Rattle.std.proofs.Common.{length}
use Rattle.medium.proofs.Found.{place_lies}
use Rattle.medium.proofs.probe.Goals as goal

pub symbol-requires : goal.symbol-requires
symbol-requires g c = let s = c.args.shape in place_lies s.rows s.nodes c.args.row c.args.node c.in_ok-spot.spot c.in_ok-spot.ensures g.M.Medium.each (length c.args.units.now) c.requires

pub meter-requires : goal.meter-requires
meter-requires g c = let s = c.args.shape in place_lies s.rows s.nodes c.args.row c.args.node c.in_ok-spot.spot c.in_ok-spot.ensures g.M.Medium.each (length c.args.units.now) c.requires
