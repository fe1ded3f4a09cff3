use Rattle.lease_rounds.proofs.Masks.{either_has, either_words}
use Rattle.lease_rounds.proofs.page_words.either.Goals as goal

pub returns-clause-pages : goal.returns-clause-pages
returns-clause-pages c = either_has c.args.these c.args.those c.ored.result c.requires.first c.requires.second c.ored.ensures

pub returns-clause-words : goal.returns-clause-words
returns-clause-words c = either_words c.args.these c.args.those c.ored.result c.requires.first c.requires.second c.ored.ensures
