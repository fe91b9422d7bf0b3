use Rattle.std.proofs.Common.{length}
use Rattle.medium.proofs.Found.{run_lies, run_beyond}
use Rattle.medium.proofs.Calls.{answers_sum, leaves_refresh}
use Rattle.medium.proofs.refresh.Goals as goal

pub worn-sum-requires-clause-lies : goal.worn-sum-requires-clause-lies
worn-sum-requires-clause-lies g c = let s = c.args.shape in run_lies s.rows s.nodes c.args.node c.in_ok-start.start c.in_ok-start.ensures g.M.Medium.each (length c.args.units.now) c.requires

pub rewind-requires-clause-lies : goal.rewind-requires-clause-lies
rewind-requires-clause-lies g c = let s = c.args.shape in run_lies s.rows s.nodes c.args.node c.in_ok-start.start c.in_ok-start.ensures g.M.Medium.each (length c.args.units.now) c.requires

pub returns-clause-answers : goal.returns-clause-answers
returns-clause-answers g c = let s = c.args.shape in answers_sum s.rows s.nodes g.M.Medium.life (g.M.Medium.symbols c.args.units.now) (g.M.Medium.meters c.args.units.now) c.args.node c.in_ok-start.start c.worn-sum.result c.in_ok-start.ensures c.worn-sum.ensures

pub returns-clause-leaves : goal.returns-clause-leaves
returns-clause-leaves g c = let s = c.args.shape in leaves_refresh s.rows s.nodes g.M.Medium.life _ _ _ _ c.args.node c.in_ok-start.start c.in_ok-start.ensures c.rewind.ensures.symbols c.rewind.ensures.meters

pub returns-clause-beyond : goal.returns-clause-beyond
returns-clause-beyond g c = let s = c.args.shape in run_beyond s.rows s.nodes c.args.node c.in_ok-start.start c.in_ok-start.ensures g.M.Medium.each _ _ c.rewind.ensures.beyond
