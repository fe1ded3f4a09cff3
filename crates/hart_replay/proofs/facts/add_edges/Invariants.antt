use Rattle.std.proofs.Common.{ℕ, ◌≤◌, All, take, drop, max}
use Rattle.ft_types.specs.Counts.{count_at}
use Rattle.interleaving.specs.Log.{IsClosed}
use Rattle.edge_log.specs.EdgeLog.{AddsLater, edges_of, start_of}
use Rattle.fragment_codec.specs.Rules.{count_of}
use Rattle.page_book.proofs.Later.{AreOwn}
use Rattle.hart_replay.specs.Facts.{edges_among}
use Rattle.hart_replay.specs.machinery.Taking.{between, TakesUnmet, EdgesEndBy}
use Rattle.hart_replay.proofs.facts.add_edges.Given as goal

abbrev pub invariant-loop-record : goal.invariant-loop-record
invariant-loop-record l =
    let hart = l.piece.key.hart in
    record {
      taken : TakesUnmet hart (count_at l.met) l.initial.edges (edges_among (between l.from l.end (take l.record-index l.piece.records))) l.edges;
      ahead : All (λ fact. l.from ≤ count_of fact → EdgesEndBy l.edges hart (count_of fact)) (drop l.record-index l.piece.records);
      last : EdgesEndBy l.edges hart (max l.from l.piece.to);
      own : AreOwn l.edges;
      closed : IsClosed (edges_of l.edges) (start_of l.initial.edges);
      later : (settled : ℕ → ℕ) → settled hart ≤ max l.from l.piece.from → AddsLater l.initial.edges settled l.edges;
    }
