use Rattle.lease_ledger.proofs.Laws.{keeps_ledger, has_honest_log, adds_its_steps, lays_its_run, runs_in_lists}
use Rattle.lease_ledger.proofs.honest_ledger.Goals as goal

pub returns-clause-kept : goal.returns-clause-kept
returns-clause-kept g c = λ system. keeps_ledger system

pub returns-clause-has_log : goal.returns-clause-has_log
returns-clause-has_log g c = λ system. has_honest_log system

pub returns-clause-adds_its_steps : goal.returns-clause-adds_its_steps
returns-clause-adds_its_steps g c = λ system. adds_its_steps system

pub returns-clause-in_lists : goal.returns-clause-in_lists
returns-clause-in_lists g c = λ hardware. runs_in_lists hardware

pub returns-clause-lays_its_run : goal.returns-clause-lays_its_run
returns-clause-lays_its_run g c = λ system. lays_its_run system
