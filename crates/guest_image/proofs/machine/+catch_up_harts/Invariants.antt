use Rattle.std.proofs.Common.{length}
use Rattle.guest_image.proofs.machine.+catch_up_harts.Given as goal

abbrev pub decreases-catch_up_harts : goal.decreases-catch_up_harts
decreases-catch_up_harts l = length l.harts.now
