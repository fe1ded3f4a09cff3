use Rattle.crew_pages.proofs.Laws.{begins, keeps_going_on, keeps_giving_up, keeps_lowering, keeps_giving}
use Rattle.crew_pages.proofs.page_invariant.Goals as goal

pub returns-clause-begins : goal.returns-clause-begins
returns-clause-begins c = begins

pub returns-clause-goes_on : goal.returns-clause-goes_on
returns-clause-goes_on c = keeps_going_on

pub returns-clause-gives_up : goal.returns-clause-gives_up
returns-clause-gives_up c = keeps_giving_up

pub returns-clause-lowers : goal.returns-clause-lowers
returns-clause-lowers c = keeps_lowering

pub returns-clause-gives : goal.returns-clause-gives
returns-clause-gives c = keeps_giving
