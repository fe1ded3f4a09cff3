use Rattle.hart_threads.proofs.Finishing.{goes_on_itself}
use Rattle.hart_threads.proofs.legs.pick.Goals as goal

pub returns : goal.returns
returns c = goes_on_itself c.args.copy
