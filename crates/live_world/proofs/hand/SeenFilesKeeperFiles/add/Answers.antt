use Rattle.std.proofs.Common.{refl}
use Rattle.live_world.proofs.Seeing.{tells_seen}
use Rattle.live_world.proofs.hand.SeenFilesKeeperFiles.add.Goals as goal

pub returns-clause-ok : goal.returns-clause-ok
returns-clause-ok c = tells_seen _ _ _ _ refl
