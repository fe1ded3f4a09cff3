use Rattle.command_line.proofs.Ending.{words_end}
use Rattle.command_line.proofs.commands.answer.Goals as goal

pub returns-in-Err : goal.returns-in-Err
returns-in-Err g c =
    record {
      ends = words_end c.in-Err.fault c.no_request.result _ _ _ _ c.no_request.ensures.usage c.no_request.ensures.memory c.no_request.ensures.told;
    }
