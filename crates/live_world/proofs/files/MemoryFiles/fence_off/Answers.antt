use Rattle.live_world.specs.Shelves.{hand_of, read_of}
use Rattle.live_world.proofs.Filing.{fence_put}
use Rattle.live_world.proofs.files.MemoryFiles.fence_off.Goals as goal

pub returns : goal.returns
returns c =
    let files = c.self.inside in
    fence_put c.args.self.now files.log.items files.safe files.fence c.args.term c.max-self-inside.result (hand_of files.hand) (read_of files.hand) files.crashed
    c.self.view_is c.max-self-inside.ensures
