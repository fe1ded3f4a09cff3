use Rattle.std.proofs.Common.{map, arith}
use Rattle.warm_live.proofs.Own.{new_here, old_here, old_there}
use Rattle.warm_live.proofs.checks.is_new_to.Goals as goal

pub returns-then-last_term-term-clause-old : goal.returns-then-last_term-term-clause-old
returns-then-last_term-term-clause-old c = λ no.
    old_here c.args.own.now (map (λ s. s.1.now) c.args.stores.now) c.last_term.result c.args.term c.last_term.ensures (omega arith)

pub returns-clause-new : goal.returns-clause-new
returns-clause-new c = λ yes.
    new_here c.args.own.now (map (λ s. s.1.now) c.args.stores.now) c.last_term.result c.args.term c.last_term.ensures (omega arith) (c.is_new.ensures.new yes)

pub returns-clause-old : goal.returns-clause-old
returns-clause-old c = λ no.
    old_there c.args.own.now (map (λ s. s.1.now) c.args.stores.now) c.args.term (c.is_new.ensures.old no)
