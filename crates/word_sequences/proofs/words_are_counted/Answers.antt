use Rattle.word_sequences.proofs.Runs.{runs_are_counted}
use Rattle.word_sequences.proofs.Logs.{logs_are_counted}
use Rattle.word_sequences.proofs.Cuts.{cuts_are_counted}
use Rattle.word_sequences.proofs.words_are_counted.Goals as goal

pub returns-clause-runs : goal.returns-clause-runs
returns-clause-runs c = runs_are_counted

pub returns-clause-logs : goal.returns-clause-logs
returns-clause-logs c = logs_are_counted

pub returns-clause-cuts : goal.returns-clause-cuts
returns-clause-cuts c = cuts_are_counted
