use Rattle.interleaving.proofs.Recorder.{records_honestly, records_each_run}
use Rattle.interleaving.proofs.recording.Goals as goal

pub returns-clause-honest : goal.returns-clause-honest
returns-clause-honest g c = λ system. records_honestly system

pub returns-clause-each_run : goal.returns-clause-each_run
returns-clause-each_run g c = λ system. records_each_run system
