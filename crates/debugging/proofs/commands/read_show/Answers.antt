use Rattle.debugging.proofs.commands.read_show.Goals as goal

pub returns-in-109-clause-memory : goal.returns-in-109-clause-memory
returns-in-109-clause-memory c = λ address many is r. c.read_memory.ensures address many r
