use Rattle.std.proofs.Common.{arith}
use Rattle.std.proofs.lemmas.Grind.{common_steps}
use Rattle.std.proofs.lemmas.List.Elements.{filter_map-append}
use Rattle.closed_cut.proofs.gathering.add_edges.Goals as goal

pub loop-record-preserved : goal.loop-record-preserved
loop-record-preserved c = grind (arith, common_steps, filter_map-append)
