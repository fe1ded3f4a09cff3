use Rattle.page_book.proofs.Tellings.{tells_the_same, tells_further, settled_tells_on}
use Rattle.page_book.proofs.laws.books_tell_on.Goals as goal

pub returns-clause-same : goal.returns-clause-same
returns-clause-same c = tells_the_same

pub returns-clause-further : goal.returns-clause-further
returns-clause-further c = tells_further

pub returns-clause-settled : goal.returns-clause-settled
returns-clause-settled c = settled_tells_on
