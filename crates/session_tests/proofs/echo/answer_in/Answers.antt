use Rattle.std.proofs.Common.{vec_items}
use Rattle.session_tests.proofs.Adding.{adds}
use Rattle.session_tests.proofs.echo.answer_in.Goals as goal

pub returns : goal.returns
returns g c = adds c.write_reply.result (vec_items c.args.out.now) (vec_items c.write_reply.new.out) _ c.write_reply.ensures
