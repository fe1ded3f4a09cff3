use Rattle.log_pieces.proofs.cuts.Laws.{count_whole}
use Rattle.log_pieces.proofs.cut_laws.whole_counts.Goals as goal

pub returns : goal.returns
returns c = count_whole
