use Rattle.lease_rounds.proofs.OneStep.{tells_itself, unmoved_itself, unmoved_tells}
use Rattle.lease_rounds.proofs.stepping.take_step.Goals as goal

pub returns-then-is_halted-clause-unmoved : goal.returns-then-is_halted-clause-unmoved
returns-then-is_halted-clause-unmoved c = unmoved_itself c.args.hart c.args.book.now

pub returns-then-count-get-clause-unmoved : goal.returns-then-count-get-clause-unmoved
returns-then-count-get-clause-unmoved c = unmoved_itself c.args.hart c.args.book.now

pub returns-then-is_halted-clause-comes : goal.returns-then-is_halted-clause-comes
returns-then-is_halted-clause-comes c = tells_itself c.args.book.now

pub returns-then-count-get-clause-comes : goal.returns-then-count-get-clause-comes
returns-then-count-get-clause-comes c = tells_itself c.args.book.now

pub returns-in-Err-clause-comes : goal.returns-in-Err-clause-comes
returns-in-Err-clause-comes c = unmoved_tells c.args.hart c.args.book.now c.go_once.new.book c.in-Err.ensures.unmoved
