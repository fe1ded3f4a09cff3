use Rattle.interleaving.proofs.Beginnings.{front_begins, reached, ends_are_cuts, extends, own_order}
use Rattle.interleaving.proofs.schedules.Goals as goal

pub returns-clause-front : goal.returns-clause-front
returns-clause-front g c = front_begins

pub returns-clause-reached : goal.returns-clause-reached
returns-clause-reached g c = λ system. reached system

pub returns-clause-ends_are_cuts : goal.returns-clause-ends_are_cuts
returns-clause-ends_are_cuts g c = λ system. ends_are_cuts system

pub returns-clause-extends : goal.returns-clause-extends
returns-clause-extends g c = λ system. extends system

pub returns-clause-own_order : goal.returns-clause-own_order
returns-clause-own_order g c = λ system. own_order system
