use Rattle.gdb_packets.proofs.Cuts.{same_packets}
use Rattle.gdb_packets.proofs.laws.one_spelling.Goals as goal

pub returns : goal.returns
returns c = same_packets
