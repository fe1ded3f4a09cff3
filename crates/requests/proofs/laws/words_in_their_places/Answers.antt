use Rattle.requests.proofs.Places.{all_in_place, exactly_once, none_is_missing}
use Rattle.requests.proofs.laws.words_in_their_places.Goals as goal

pub returns-clause-in_place : goal.returns-clause-in_place
returns-clause-in_place c = all_in_place

pub returns-clause-exactly_once : goal.returns-clause-exactly_once
returns-clause-exactly_once c = exactly_once

pub returns-clause-none_is_missing : goal.returns-clause-none_is_missing
returns-clause-none_is_missing c = none_is_missing
