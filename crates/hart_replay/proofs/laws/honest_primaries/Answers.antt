use Rattle.hart_replay.proofs.honesty.Lasting.{pieces_last}
use Rattle.hart_replay.proofs.honesty.Primaries.{cuts_are_pieces, pieces_tell, books_are_terms, primaries_are_histories}
use Rattle.hart_replay.proofs.honesty.Sealing.{unsealed_is_of_book, cuts_seal_more, terms_go_on}
use Rattle.hart_replay.proofs.laws.honest_primaries.Goals as goal

pub returns-clause-pieces : goal.returns-clause-pieces
returns-clause-pieces c = cuts_are_pieces

pub returns-clause-last : goal.returns-clause-last
returns-clause-last c = pieces_last

pub returns-clause-tell : goal.returns-clause-tell
returns-clause-tell c = pieces_tell

pub returns-clause-begin : goal.returns-clause-begin
returns-clause-begin c = unsealed_is_of_book

pub returns-clause-seal : goal.returns-clause-seal
returns-clause-seal c = cuts_seal_more

pub returns-clause-on : goal.returns-clause-on
returns-clause-on c = terms_go_on

pub returns-clause-terms : goal.returns-clause-terms
returns-clause-terms c = books_are_terms

pub returns-clause-history : goal.returns-clause-history
returns-clause-history c = primaries_are_histories
