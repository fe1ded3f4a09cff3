use Rattle.hart_replay.proofs.failovers.Books.{outcomes_begin, books_have_counts, books_go_live, books_go_on, stores_of_image_stay, later_terms_of_image}
use Rattle.hart_replay.proofs.laws.honest_failovers.Goals as goal

pub returns-clause-begin : goal.returns-clause-begin
returns-clause-begin c = outcomes_begin

pub returns-clause-counts : goal.returns-clause-counts
returns-clause-counts c = books_have_counts

pub returns-clause-live : goal.returns-clause-live
returns-clause-live c = books_go_live

pub returns-clause-on : goal.returns-clause-on
returns-clause-on c = books_go_on

pub returns-clause-stores : goal.returns-clause-stores
returns-clause-stores c = stores_of_image_stay

pub returns-clause-later : goal.returns-clause-later
returns-clause-later c = later_terms_of_image
