use Rattle.std.proofs.Common.{arith, rules}
use Rattle.stations.proofs.HandedLines.{handed_to}
use Rattle.stations.proofs.handing.behind_line.Goals as goal

pub returns : goal.returns
returns c = handed_to c.args.guest.now c.args.keeper c.args.term c.args.frames.now _ (omega arith) (omega arith) (search rules)
