use Rattle.command_line.proofs.commands.no_request.Goals as goal

pub returns-in-Usage-clause-told : goal.returns-in-Usage-clause-told
returns-in-Usage-clause-told g c = (c.write_words_fault-told.result, c.write_words_fault-told.ensures)

pub returns-in-Memory-clause-told : goal.returns-in-Memory-clause-told
returns-in-Memory-clause-told g c = (c.write_words_fault-told.result, c.write_words_fault-told.ensures)
