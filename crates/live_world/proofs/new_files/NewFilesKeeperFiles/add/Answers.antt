use Rattle.live_world.proofs.Filing.{if_err}
use Rattle.live_world.proofs.Filled.{adds_none, tells_new}
use Rattle.live_world.proofs.new_files.NewFilesKeeperFiles.add.Goals as goal

pub returns-in_err-append-clause-failed : goal.returns-in_err-append-clause-failed
returns-in_err-append-clause-failed c = if_err _ _ (adds_none _ _ c.args.bytes.now c.in_err-append.ensures.err)

pub returns-clause-ok : goal.returns-clause-ok
returns-clause-ok c = tells_new _ _ _ c.in_ok-append.ensures.ok
