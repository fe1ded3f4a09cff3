use Rattle.std.proofs.Common.{rules}
use Rattle.stations.proofs.written.WrittenFrame.write.Goals as goal

pub invariant_of-result : goal.invariant_of-result
invariant_of-result c = (search rules, c.write_frame.ensures.read_again)
