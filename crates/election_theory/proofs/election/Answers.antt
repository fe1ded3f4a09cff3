use Rattle.election_theory.proofs.Owning.{overlaps, dealt}
use Rattle.election_theory.proofs.Events.{unique}
use Rattle.election_theory.proofs.Race.{races}
use Rattle.election_theory.proofs.election.Goals as goal

pub returns-clause-unique : goal.returns-clause-unique
returns-clause-unique g c = λ recorder guest quorum may. unique recorder guest quorum may

pub returns-clause-dealt : goal.returns-clause-dealt
returns-clause-dealt g c = dealt

pub returns-clause-overlaps : goal.returns-clause-overlaps
returns-clause-overlaps g c = λ quorum. overlaps quorum

pub returns-clause-races : goal.returns-clause-races
returns-clause-races g c = λ recorder. races recorder
