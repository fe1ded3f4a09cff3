use Rattle.std.proofs.Common.{◌≤◌, arith}
use Rattle.live_world.specs.Shelves.{hand_of, read_of}
use Rattle.live_world.proofs.Filing.{crash_done}
use Rattle.live_world.proofs.files.MemoryFiles.crash.Goals as goal

pub returns : goal.returns
returns c =
    let files = c.self.inside in
    let above : files.safe ≤ c.min-size.result = omega (arith, c.self.invariant, files.log.ok.0) in
    crash_done c.args.self.now files.log.items c.truncate.new.self.items files.safe c.min-size.result files.fence (hand_of files.hand) (read_of files.hand)
    files.crashed c.self.view_is c.truncate.ensures.items above
