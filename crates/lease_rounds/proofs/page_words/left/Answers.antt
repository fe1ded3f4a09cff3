use Rattle.lease_rounds.proofs.Masks.{left_has, left_words}
use Rattle.lease_rounds.proofs.page_words.left.Goals as goal

pub returns-clause-pages : goal.returns-clause-pages
returns-clause-pages c = left_has c.args.these c.args.those c.cleared.result c.requires.first c.requires.second c.cleared.ensures

pub returns-clause-words : goal.returns-clause-words
returns-clause-words c = left_words c.args.these c.args.those c.cleared.result c.requires.first c.requires.second c.cleared.ensures
