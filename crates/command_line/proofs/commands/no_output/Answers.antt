use Rattle.command_line.proofs.commands.no_output.Goals as goal

pub returns-clause-told : goal.returns-clause-told
returns-clause-told g c = (c.write_fault-told.result, c.write_fault-told.ensures)
