use Rattle.wire.proofs.Feeds.{follows_none}
use Rattle.wire.proofs.feed.LineFeed.new.Goals as goal

pub returns : goal.returns
returns c = rw c.new.ensures follows_none
