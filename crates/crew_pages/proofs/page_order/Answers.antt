use Rattle.crew_pages.proofs.Laws.{owes_only_settled, puts_before, one_writer, gives_it}
use Rattle.crew_pages.proofs.page_order.Goals as goal

pub returns-clause-owes : goal.returns-clause-owes
returns-clause-owes c = owes_only_settled

pub returns-clause-before : goal.returns-clause-before
returns-clause-before c = puts_before

pub returns-clause-one_writer : goal.returns-clause-one_writer
returns-clause-one_writer c = one_writer

pub returns-clause-gives : goal.returns-clause-gives
returns-clause-gives c = gives_it
