use Rattle.input_log.proofs.offered.Offered.new.Goals as goal

pub returns-clause-value : goal.returns-clause-value
returns-clause-value c = rw (← c.of_hart.ensures.value, ← c.others.ensures.value)
