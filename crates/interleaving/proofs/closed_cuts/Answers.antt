use Rattle.interleaving.proofs.Cuts.{start_closed, greater_closed, greatest, find_broken, lowering}
use Rattle.interleaving.proofs.closed_cuts.Goals as goal

pub returns-clause-start : goal.returns-clause-start
returns-clause-start c = start_closed

pub returns-clause-greater : goal.returns-clause-greater
returns-clause-greater c = greater_closed

pub returns-clause-greatest : goal.returns-clause-greatest
returns-clause-greatest c = greatest

pub returns-clause-closed_or_broken : goal.returns-clause-closed_or_broken
returns-clause-closed_or_broken c = find_broken

pub returns-clause-lowering : goal.returns-clause-lowering
returns-clause-lowering c = lowering
