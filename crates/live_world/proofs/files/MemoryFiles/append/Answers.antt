use Rattle.live_world.specs.Shelves.{hand_of, read_of}
use Rattle.live_world.proofs.Filing.{appended}
use Rattle.live_world.proofs.files.MemoryFiles.append.Goals as goal

pub returns-clause-ok : goal.returns-clause-ok
returns-clause-ok c =
    let files = c.self.inside in
    appended c.args.self.now files.log.items c.extend_from_slice.new.self.items c.args.bytes.now files.safe files.fence (hand_of files.hand)
    (read_of files.hand) files.crashed c.self.view_is c.in_ok-extend_from_slice.ensures.items c.self.invariant
