use Rattle.std.proofs.Common.{refl}
use Rattle.live_world.proofs.Filled.{tells_new}
use Rattle.live_world.proofs.new_files.NewFilesKeeperFiles.read_log.Goals as goal

pub returns-clause-failed : goal.returns-clause-failed
returns-clause-failed c = tells_new _ _ _ refl
