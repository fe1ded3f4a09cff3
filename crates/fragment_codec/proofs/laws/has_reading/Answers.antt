use Rattle.fragment_codec.proofs.streams.HasReading.{has_reading}
use Rattle.fragment_codec.proofs.laws.has_reading.Goals as goal

pub returns : goal.returns
returns c = has_reading
