use Rattle.scripts.proofs.OneList.{only_events, only_fault}
use Rattle.scripts.proofs.events.read_events.Goals as goal

pub returns-clause-only : goal.returns-clause-only
returns-clause-only c = only_events (λ v. v.items) c.args.harts c.args.bytes.now c.read_lines.result c.read_lines.ensures.found c.read_lines.ensures.fault

pub returns-clause-exact : goal.returns-clause-exact
returns-clause-exact c = only_fault (λ v. v.items) c.args.harts c.args.bytes.now c.read_lines.result c.read_lines.ensures.found c.read_lines.ensures.fault
