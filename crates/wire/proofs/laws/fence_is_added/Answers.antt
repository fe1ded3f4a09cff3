use Rattle.wire.proofs.LastFences.{one_last, fence_added}
use Rattle.wire.proofs.laws.fence_is_added.Goals as goal

pub returns-clause-one : goal.returns-clause-one
returns-clause-one c = one_last

pub returns-clause-added : goal.returns-clause-added
returns-clause-added c = fence_added
