use Rattle.log_pieces.proofs.cuts.Laws.{one_hart_cut, one_whole_cut}
use Rattle.log_pieces.proofs.cut_laws.one_cut.Goals as goal

pub returns-clause-hart : goal.returns-clause-hart
returns-clause-hart c = one_hart_cut

pub returns-clause-all : goal.returns-clause-all
returns-clause-all c = one_whole_cut
