use Rattle.std.proofs.Common.{inl}
use Rattle.live_world.specs.Shelves.{hand_of, read_of}
use Rattle.live_world.proofs.Telling.{tells}
use Rattle.live_world.proofs.Filing.{does_turn, failed, fence_done, lives_as, tells_as}
use Rattle.live_world.proofs.files.MemoryFilesKeeperFiles.add_fence.Goals as goal

pub returns-in-Fails-clause-failed : goal.returns-in-Fails-clause-failed
returns-in-Fails-clause-failed c = inl (tells c.come_to_turn.ensures.besides (failed _ _))

pub returns-clause-ok : goal.returns-clause-ok
returns-clause-ok c =
    let lives = c.come_to_turn.ensures.does (does_turn _ c.in_default.not-Fails) in
    let files = c.self-2.inside in
    tells_as _ _ _ _ _ c.come_to_turn.ensures.besides c.self-2.view_is (fence_done files.log.items files.safe files.fence c.args.term c.max-self-inside.result
    (hand_of files.hand) (read_of files.hand) files.crashed c.max-self-inside.ensures (lives_as _ _ c.self-2.view_is lives))
