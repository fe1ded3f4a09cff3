use Rattle.std.proofs.Common.{◌≡◌, length, arith}
use Rattle.live_world.specs.Shelves.{hand_of, read_of}
use Rattle.live_world.proofs.Telling.{tells}
use Rattle.live_world.proofs.Filing.{does_turn, failed, sync_done, lives_as, tells_as}
use Rattle.live_world.proofs.files.MemoryFilesKeeperFiles.sync.Goals as goal

pub returns-in-Fails-clause-failed : goal.returns-in-Fails-clause-failed
returns-in-Fails-clause-failed c = tells c.come_to_turn.ensures.besides (failed _ _)

pub returns-clause-ok : goal.returns-clause-ok
returns-clause-ok c =
    let lives = c.come_to_turn.ensures.does (does_turn _ c.in_default.not-Fails) in
    let files = c.self-2.inside in
    let whole : c.len-self-inside.result ≡ length files.log.items = omega (arith, c.len-self-inside.ensures, files.log.ok.0) in
    tells_as _ _ _ _ _ c.come_to_turn.ensures.besides c.self-2.view_is (sync_done files.log.items files.safe c.len-self-inside.result files.fence
    (hand_of files.hand) (read_of files.hand) files.crashed whole (lives_as _ _ c.self-2.view_is lives))
