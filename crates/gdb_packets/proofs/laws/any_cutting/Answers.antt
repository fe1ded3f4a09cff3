use Rattle.gdb_packets.proofs.Cuts.{same_events}
use Rattle.gdb_packets.proofs.laws.any_cutting.Goals as goal

pub returns : goal.returns
returns c = same_events
