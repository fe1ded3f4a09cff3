use Rattle.std.proofs.Common.{◌≡◌, length, arith}
use Rattle.live_world.specs.Shelves.{hand_of, read_of}
use Rattle.live_world.proofs.Filing.{brought}
use Rattle.live_world.proofs.files.MemoryFiles.bring.Goals as goal

pub returns : goal.returns
returns c =
    let files = c.self.inside in
    let whole : c.len-size.result ≡ length files.log.items = omega (arith, c.len-size.ensures, files.log.ok.0) in
    brought c.args.self.now files.log.items files.safe c.len-size.result files.fence (hand_of files.hand) (read_of files.hand) files.crashed c.self.view_is whole
