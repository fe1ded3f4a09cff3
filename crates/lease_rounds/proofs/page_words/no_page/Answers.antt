use Rattle.lease_rounds.proofs.Masks.{none_has}
use Rattle.lease_rounds.proofs.page_words.no_page.Goals as goal

pub returns-clause-none : goal.returns-clause-none
returns-clause-none c = none_has
