use Rattle.command_line.proofs.Ending.{lost_ends}
use Rattle.command_line.proofs.commands.tell_text.Goals as goal

pub returns-in-Err-clause-ends : goal.returns-in-Err-clause-ends
returns-in-Err-clause-ends g c = lost_ends c.no_output.result _ _ _ _ c.no_output.ensures.status c.no_output.ensures.told
