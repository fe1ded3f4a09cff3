use Rattle.pair.proofs.Offered.{last_kept}
use Rattle.pair.proofs.exits.look_on.Goals as goal

pub returns-clause-last : goal.returns-clause-last
returns-clause-last c = last_kept c.args.gate.now c.look.new.self c.in_ok-given.ensures.same
