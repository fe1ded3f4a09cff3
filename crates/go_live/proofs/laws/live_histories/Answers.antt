use Rattle.go_live.proofs.Longer.{primaries_make_histories}
use Rattle.go_live.proofs.laws.live_histories.Goals as goal

pub returns : goal.returns
returns c = primaries_make_histories
