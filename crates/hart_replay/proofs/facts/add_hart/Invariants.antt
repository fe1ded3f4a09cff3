use Rattle.std.proofs.Common.{◌≡◌}
use Rattle.ft_types.specs.Counts.{count_at}
use Rattle.closed_cut.specs.Position.{pieces_of, Goes}
use Rattle.hart_replay.specs.Facts.{below, records_of, edges_among, inputs_among, notes_among}
use Rattle.hart_replay.specs.machinery.Taking.{TakesEdges, EdgesEndBy, TakesInputs, InputsEndBelow, TakesNotes}
use Rattle.hart_replay.proofs.facts.add_hart.Given as goal

abbrev pub invariant-loop-place : goal.invariant-loop-place
invariant-loop-place l =
    let was = l.initial.leg in
    let pieces = pieces_of l.store was.term l.hart in
    record {
      term : l.leg.term ≡ was.term;
      base : l.leg.base ≡ was.base;
      ends : l.leg.ends ≡ was.ends;
      goes : Goes pieces (count_at was.base l.hart) l.place l.at;
      edges : TakesEdges l.hart was.edges (edges_among (below l.end (records_of pieces l.place))) l.leg.edges;
      edges_end : EdgesEndBy l.leg.edges l.hart l.at;
      inputs : TakesInputs l.hart was.inputs (inputs_among (below l.end (records_of pieces l.place))) l.leg.inputs;
      inputs_end : InputsEndBelow l.leg.inputs l.hart l.at;
      notes : TakesNotes l.hart was.marks (notes_among (below l.end (records_of pieces l.place))) l.leg.marks;
    }
