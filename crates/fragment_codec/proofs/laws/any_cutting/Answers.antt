use Rattle.fragment_codec.proofs.streams.Readings.{one_feed}
use Rattle.fragment_codec.proofs.laws.any_cutting.Goals as goal

pub returns : goal.returns
returns c = one_feed
