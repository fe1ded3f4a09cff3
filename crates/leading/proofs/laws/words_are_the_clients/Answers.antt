use Rattle.leading.proofs.Asking.{given_were_handed, gives_clients_words, words_follow}
use Rattle.leading.proofs.laws.words_are_the_clients.Goals as goal

pub returns-clause-follow : goal.returns-clause-follow
returns-clause-follow c = words_follow

pub returns-clause-handed : goal.returns-clause-handed
returns-clause-handed c = given_were_handed

pub returns-clause-given : goal.returns-clause-given
returns-clause-given c = gives_clients_words
