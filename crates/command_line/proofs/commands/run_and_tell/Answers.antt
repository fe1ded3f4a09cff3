use Rattle.std.proofs.Common.{inr}
use Rattle.command_line.proofs.commands.run_and_tell.Goals as goal

pub returns-in-Err : goal.returns-in-Err
returns-in-Err g c = inr (
  c.in-Err.fault,
  c.named_in.result.now,
  (c.status_of.ensures.usage, c.status_of.ensures.others),
  (c.write_fault-told.result, c.write_fault-told.ensures),
)
