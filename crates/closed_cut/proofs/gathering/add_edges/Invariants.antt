use Rattle.std.proofs.Common.{◌≡◌, ◌++◌, take}
use Rattle.std.specs.List.{filter_map}
use Rattle.fragment_codec.specs.Facts.{edge_in}
use Rattle.closed_cut.proofs.gathering.add_edges.Given as goal

abbrev pub invariant-loop-record : goal.invariant-loop-record
invariant-loop-record l = l.edges.items ≡ l.initial.edges.items ++ filter_map edge_in (take l.record-index l.records)
