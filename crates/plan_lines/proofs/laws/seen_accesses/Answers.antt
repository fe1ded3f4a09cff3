use Rattle.plan_lines.proofs.Written.{writes_are_used}
use Rattle.plan_lines.proofs.Seen.{reads_are_used}
use Rattle.plan_lines.proofs.laws.seen_accesses.Goals as goal

pub returns-clause-writes : goal.returns-clause-writes
returns-clause-writes c = writes_are_used

pub returns-clause-reads : goal.returns-clause-reads
returns-clause-reads c = reads_are_used
