use Rattle.std.proofs.Common.{take}
use Rattle.std.specs.List.{filter_map}
use Rattle.fragment_codec.specs.Facts.{edge_in}
use Rattle.ft_types.specs.Counts.{count_at}
use Rattle.tracked_position.proofs.Scans.{Scanned}
use Rattle.tracked_position.proofs.walk.least_unmet.Given as goal

abbrev pub invariant-loop-record : goal.invariant-loop-record
invariant-loop-record l = Scanned (filter_map edge_in (take l.record-index l.records)) (count_at l.cut) l.ceiling l.least l.below
