use Rattle.keeper_disks.proofs.Acts.{disks_go}
use Rattle.keeper_disks.proofs.Standings.{disks_begin, disks_stay, disks_crash}
use Rattle.keeper_disks.proofs.disks_are_keepers.Goals as goal

pub returns-clause-begins : goal.returns-clause-begins
returns-clause-begins g c = λ guest. disks_begin _ guest

pub returns-clause-stays : goal.returns-clause-stays
returns-clause-stays g c = λ guest. disks_stay _ guest

pub returns-clause-crashes : goal.returns-clause-crashes
returns-clause-crashes g c = λ guest. disks_crash _ guest

pub returns-clause-goes : goal.returns-clause-goes
returns-clause-goes g c = λ recorder guest quorum. disks_go recorder guest quorum
