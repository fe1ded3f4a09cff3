use Rattle.process_world.proofs.All.{processes}
use Rattle.process_world.proofs.processes.Goals as goal

pub returns : goal.returns
returns c = processes
