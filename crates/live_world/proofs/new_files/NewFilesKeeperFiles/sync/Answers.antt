use Rattle.live_world.proofs.Filled.{tells_new}
use Rattle.live_world.proofs.new_files.NewFilesKeeperFiles.sync.Goals as goal

pub returns-clause-ok : goal.returns-clause-ok
returns-clause-ok c = tells_new _ _ _ c.bring.ensures
