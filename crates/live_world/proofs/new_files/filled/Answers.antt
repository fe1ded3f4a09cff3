use Rattle.live_world.proofs.Filled.{is_filled}
use Rattle.live_world.proofs.new_files.filled.Goals as goal

pub returns-in-Ok-clause-filled : goal.returns-in-Ok-clause-filled
returns-in-Ok-clause-filled c = let (bytes, whole, does) = c.in-Ok.ensures.filled in (bytes, whole, is_filled _ _ bytes c.args.term c.new-files.ensures does)
