use Rattle.interleaving.proofs.Replay.{confluence}
use Rattle.interleaving.proofs.Stuck.{stuck_cannot_go_on, one_of_three}
use Rattle.interleaving.proofs.confluence.Goals as goal

pub returns-clause-confluence : goal.returns-clause-confluence
returns-clause-confluence g c = λ system. confluence system

pub returns-clause-stuck_cannot_go_on : goal.returns-clause-stuck_cannot_go_on
returns-clause-stuck_cannot_go_on g c = λ system. stuck_cannot_go_on system

pub returns-clause-one_of_three : goal.returns-clause-one_of_three
returns-clause-one_of_three g c = λ system. one_of_three system
