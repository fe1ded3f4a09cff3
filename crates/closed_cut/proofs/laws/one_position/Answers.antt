use Rattle.closed_cut.proofs.Unique.{one, same_frames as of_same_frames}
use Rattle.closed_cut.proofs.Finding.{there}
use Rattle.closed_cut.proofs.laws.one_position.Goals as goal

pub returns-clause-one : goal.returns-clause-one
returns-clause-one c = one

pub returns-clause-same_frames : goal.returns-clause-same_frames
returns-clause-same_frames c = of_same_frames

pub returns-clause-there : goal.returns-clause-there
returns-clause-there c = there
