use Rattle.interleaving.proofs.AsItWas.{hart_as_it_was, hart_was_there, page_as_it_was, page_unwritten, page_has_writer}
use Rattle.interleaving.proofs.as_it_was.Goals as goal

pub returns-clause-hart : goal.returns-clause-hart
returns-clause-hart g c = λ system. hart_as_it_was system

pub returns-clause-hart_was_there : goal.returns-clause-hart_was_there
returns-clause-hart_was_there g c = λ system. hart_was_there system

pub returns-clause-page : goal.returns-clause-page
returns-clause-page g c = λ system. page_as_it_was system

pub returns-clause-unwritten : goal.returns-clause-unwritten
returns-clause-unwritten g c = λ system. page_unwritten system

pub returns-clause-no_third_case : goal.returns-clause-no_third_case
returns-clause-no_third_case g c = λ system. page_has_writer system
