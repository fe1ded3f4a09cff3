use Rattle.hart_replay.proofs.failovers.Longer.{new_terms_grow, new_pieces_grow, histories_go_on, stores_stay, later_terms_are_new}
use Rattle.hart_replay.proofs.laws.longer_histories.Goals as goal

pub returns-clause-grow : goal.returns-clause-grow
returns-clause-grow g c = new_terms_grow _

pub returns-clause-seal : goal.returns-clause-seal
returns-clause-seal g c = new_pieces_grow _

pub returns-clause-terms : goal.returns-clause-terms
returns-clause-terms g c system = histories_go_on system

pub returns-clause-stores : goal.returns-clause-stores
returns-clause-stores g c system = stores_stay system

pub returns-clause-later : goal.returns-clause-later
returns-clause-later g c system = later_terms_are_new system
