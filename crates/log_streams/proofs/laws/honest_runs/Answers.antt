use Rattle.log_streams.proofs.HonestRuns.{runs_tell_truly, runs_replay}
use Rattle.log_streams.proofs.laws.honest_runs.Goals as goal

pub returns-clause-truly : goal.returns-clause-truly
returns-clause-truly c = runs_tell_truly

pub returns-clause-replay : goal.returns-clause-replay
returns-clause-replay c = runs_replay
