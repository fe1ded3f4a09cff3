use Rattle.debugging.proofs.commands.read_memory.Goals as goal

pub returns-in-Some : goal.returns-in-Some
returns-in-Some c = λ address many r. let e = c.in-Some.ensures address many r in cc

pub returns-in-None : goal.returns-in-None
returns-in-None c = λ address many r. let e = c.in-None.ensures address many r in absurd cc
