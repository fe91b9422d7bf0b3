use Rattle.std.proofs.Common.{vec_items}
use Rattle.session.proofs.Feeds.{holds}
use Rattle.session.proofs.held.Feed.hold.Goals as goal

pub returns : goal.returns
returns c =
    holds (vec_items c.args.self.now.held) c.args.more.now _ _ c.min-n.result c.min-n.ensures c.in_ok-extend_from_slice.ensures.items c.truncate.ensures.items
