use Rattle.fragment_codec.proofs.streams.Splits.{some_spelling}
use Rattle.fragment_codec.proofs.laws.some_spelling.Goals as goal

pub returns : goal.returns
returns c = some_spelling
