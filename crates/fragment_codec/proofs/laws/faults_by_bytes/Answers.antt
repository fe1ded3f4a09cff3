use Rattle.fragment_codec.proofs.streams.AtFault.{faults_by_bytes}
use Rattle.fragment_codec.proofs.laws.faults_by_bytes.Goals as goal

pub returns : goal.returns
returns c = faults_by_bytes
