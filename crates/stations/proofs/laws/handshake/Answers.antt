use Rattle.stations.proofs.Handshakes.{handshake}
use Rattle.stations.proofs.laws.handshake.Goals as goal

pub returns : goal.returns
returns c = handshake
