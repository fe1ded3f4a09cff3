use Rattle.std.proofs.Common.{◌≡◌, ◌<◌, ◌^◌, ◌+◌, ℕ, List, max, sym, ap, subst, arith, ◌∙◌, length, le_of_eq}
use Rattle.edge_log.specs.EdgeLog.{Edges}
use Rattle.input_log.specs.declared.Input.{Input}
use Rattle.fragment_codec.specs.declared.types.Record.{Record}
use Rattle.fragment_codec.specs.Rules.{FragmentParts}
use Rattle.ft_types.specs.Counts.{count_at}
use Rattle.log_join.specs.Cells.{One}
use Rattle.closed_cut.specs.Position.{pieces_of}
use Rattle.closed_cut.proofs.Walking.{goes_on, no_place}
use Rattle.hart_replay.specs.Facts.{below, edges_among, inputs_among, notes_among}
use Rattle.hart_replay.specs.machinery.Taking.{between, TakesEdges, TakesUnmet, TakesInputs, TakesNotes}
use Rattle.hart_replay.proofs.gathering.Pieces.{hart_is, harts_are, no_lower, edges_on, inputs_on, notes_on}
use Rattle.hart_replay.proofs.gathering.Records.{from_zero}
use Rattle.hart_replay.proofs.facts.add_hart.Goals as goal

zero_max : (n : ℕ) → max 0 n ≡ n
zero_max n = omega arith

-- what was taken of a piece from 0 on, of this hart
module _ (end hart : ℕ) (piece : FragmentParts) where
  edges_from_zero : (base : List ℕ) (old new : Edges) → piece.key.hart ≡ hart → base ≡ old.start →
      TakesUnmet piece.key.hart (count_at base) old (edges_among (between 0 end piece.records)) new → TakesEdges hart old (edges_among (below end piece.records)) new
  edges_from_zero base old new same start taken =
      subst (λ h. TakesEdges h old (edges_among (below end piece.records)) new) same
      (subst (λ (rs : List Record). TakesEdges piece.key.hart old (edges_among rs) new) (from_zero end piece.records)
      (subst (λ (s : List ℕ). TakesUnmet piece.key.hart (count_at s) old (edges_among (between 0 end piece.records)) new) start taken))

  inputs_from_zero : (old new : List (List (ℕ × Input))) → piece.key.hart ≡ hart →
      TakesInputs piece.key.hart old (inputs_among (between 0 end piece.records)) new → TakesInputs hart old (inputs_among (below end piece.records)) new
  inputs_from_zero old new same taken =
      subst (λ h. TakesInputs h old (inputs_among (below end piece.records)) new) same
      (subst (λ (rs : List Record). TakesInputs piece.key.hart old (inputs_among rs) new) (from_zero end piece.records) taken)

  notes_from_zero : (old new : List ℕ) → piece.key.hart ≡ hart → TakesNotes piece.key.hart old (notes_among (between 0 end piece.records)) new →
      TakesNotes hart old (notes_among (below end piece.records)) new
  notes_from_zero old new same taken =
      subst (λ h. TakesNotes h old (notes_among (below end piece.records)) new) same
      (subst (λ (rs : List Record). TakesNotes piece.key.hart old (notes_among rs) new) (from_zero end piece.records) taken)

pub add_edges-requires-clause-harts : goal.add_edges-requires-clause-harts
add_edges-requires-clause-harts c =
    let store = c.args.store.now in
    let was = c.args.leg.now in
    let piece = c.in-Some.piece.now in
    let one : pieces_of store was.term c.args.hart c.loop-place.place ≡ One piece =
    subst (λ t. pieces_of store t c.args.hart c.loop-place.place ≡ One piece) c.loop-place.invariant.term c.in-Some.ensures.one in
    ap length (c.loop-place.invariant.edges.start ∙ c.requires.start) ∙
    (c.requires.harts ∙ sym (harts_are store c.requires.rules was.term c.args.hart c.loop-place.place piece one))

pub add_edges-requires-clause-from : goal.add_edges-requires-clause-from
add_edges-requires-clause-from c =
    let store = c.args.store.now in
    let was = c.args.leg.now in
    let piece = c.in-Some.piece.now in
    let one : pieces_of store was.term c.args.hart c.loop-place.place ≡ One piece =
    subst (λ t. pieces_of store t c.args.hart c.loop-place.place ≡ One piece) c.loop-place.invariant.term c.in-Some.ensures.one in
    rw (
      zero_max piece.from,
      c.loop-place.invariant.base,
      hart_is store c.requires.rules was.term c.args.hart c.loop-place.place piece one,
      c.in-Some.ensures.from,
    )
    (no_lower store c.requires.rules was.term c.args.hart (count_at was.base c.args.hart) c.loop-place.place c.loop-place.at c.loop-place.invariant.goes)

pub add_edges-requires-clause-start : goal.add_edges-requires-clause-start
add_edges-requires-clause-start c other =
    le_of_eq (ap (λ (row : List ℕ). count_at row other) (c.loop-place.invariant.edges.start ∙ (c.requires.start ∙ sym c.loop-place.invariant.base)))

pub add_edges-requires-clause-last : goal.add_edges-requires-clause-last
add_edges-requires-clause-last c =
    let store = c.args.store.now in
    let was = c.args.leg.now in
    let piece = c.in-Some.piece.now in
    let one : pieces_of store was.term c.args.hart c.loop-place.place ≡ One piece =
    subst (λ t. pieces_of store t c.args.hart c.loop-place.place ≡ One piece) c.loop-place.invariant.term c.in-Some.ensures.one in
    rw (zero_max piece.from, hart_is store c.requires.rules was.term c.args.hart c.loop-place.place piece one, c.in-Some.ensures.from) c.loop-place.invariant.edges_end

pub add_inputs-requires : goal.add_inputs-requires
add_inputs-requires c =
    let store = c.args.store.now in
    let was = c.args.leg.now in
    let piece = c.in-Some.piece.now in
    let one : pieces_of store was.term c.args.hart c.loop-place.place ≡ One piece =
    subst (λ t. pieces_of store t c.args.hart c.loop-place.place ≡ One piece) c.loop-place.invariant.term c.in-Some.ensures.one in
    record {
      last =
          rw (zero_max piece.from, hart_is store c.requires.rules was.term c.args.hart c.loop-place.place piece one, c.in-Some.ensures.from)
          c.loop-place.invariant.inputs_end;
    }

pub loop-place-preserved : goal.loop-place-preserved
loop-place-preserved c =
    let store = c.args.store.now in
    let was = c.args.leg.now in
    let hart = c.args.hart in
    let place = c.loop-place.place in
    let piece = c.in-Some.piece.now in
    let pieces = pieces_of store was.term hart in
    let one : pieces place ≡ One piece = subst (λ t. pieces_of store t hart place ≡ One piece) c.loop-place.invariant.term c.in-Some.ensures.one in
    let same = hart_is store c.requires.rules was.term hart place piece one in
    let mid = c.add_edges.new.edges in
    let end = c.count_of-end.result in
    record {
      term = c.loop-place.invariant.term;
      base = c.loop-place.invariant.base;
      ends = c.loop-place.invariant.ends;
      goes =
          rw c.to-at.ensures
          (goes_on pieces (count_at was.base hart) place c.loop-place.at piece c.loop-place.invariant.goes one c.in-Some.ensures.from);
      edges =
          edges_on pieces place piece one end hart was.edges c.loop-place.leg.edges c.add_edges.new.edges c.loop-place.invariant.edges
          (edges_from_zero end hart piece c.loop-place.leg.base c.loop-place.leg.edges c.add_edges.new.edges same
          (c.loop-place.invariant.base ∙ sym (c.loop-place.invariant.edges.start ∙ c.requires.start)) c.in_ok-add_edges.ensures.taken);
      edges_end = rw (← same, c.to-at.ensures, ← zero_max piece.to) c.in_ok-add_edges.ensures.last;
      inputs =
          inputs_on pieces place piece one end hart was.inputs c.loop-place.leg.inputs c.add_inputs.new.inputs c.loop-place.invariant.inputs
          (inputs_from_zero end hart piece c.loop-place.leg.inputs c.add_inputs.new.inputs same c.in_ok-add_inputs.ensures.taken);
      inputs_end = rw (← same, c.to-at.ensures, ← zero_max piece.to) c.in_ok-add_inputs.ensures.last;
      notes =
          notes_on pieces place piece one end hart was.marks c.loop-place.leg.marks c.add_notes.new.marks c.loop-place.invariant.notes
          (notes_from_zero end hart piece c.loop-place.leg.marks c.add_notes.new.marks same c.add_notes.ensures);
    }

pub returns-in_ok-add_inputs-clause-taken : goal.returns-in_ok-add_inputs-clause-taken
returns-in_ok-add_inputs-clause-taken c =
    let store = c.args.store.now in
    let was = c.args.leg.now in
    let hart = c.args.hart in
    let place = c.loop-place.place in
    let piece = c.in-Some.piece.now in
    let pieces = pieces_of store was.term hart in
    let one : pieces place ≡ One piece = subst (λ t. pieces_of store t hart place ≡ One piece) c.loop-place.invariant.term c.in-Some.ensures.one in
    let same = hart_is store c.requires.rules was.term hart place piece one in
    let end = c.count_of-end.result in
    record {
      places = place + 1;
      end = piece.to;
      goes = goes_on pieces (count_at was.base hart) place c.loop-place.at piece c.loop-place.invariant.goes one c.in-Some.ensures.from;
      stops =
          λ next at from.
          let less : place + 1 < 2 ^ 32 = no_place store was.term hart (place + 1) next c.requires.rules at in
          absurd (omega arith);
      edges =
          rw (← c.count_of-end.ensures.value)
          (edges_on pieces place piece one end hart was.edges c.loop-place.leg.edges c.add_edges.new.edges c.loop-place.invariant.edges
          (edges_from_zero end hart piece c.loop-place.leg.base c.loop-place.leg.edges c.add_edges.new.edges same
          (c.loop-place.invariant.base ∙ sym (c.loop-place.invariant.edges.start ∙ c.requires.start)) c.in_ok-add_edges.ensures.taken));
      inputs =
          rw (← c.count_of-end.ensures.value)
          (inputs_on pieces place piece one end hart was.inputs c.loop-place.leg.inputs c.add_inputs.new.inputs c.loop-place.invariant.inputs
          (inputs_from_zero end hart piece c.loop-place.leg.inputs c.add_inputs.new.inputs same c.in_ok-add_inputs.ensures.taken));
      notes =
          rw (← c.count_of-end.ensures.value)
          (notes_on pieces place piece one end hart was.marks c.loop-place.leg.marks c.add_notes.new.marks c.loop-place.invariant.notes
          (notes_from_zero end hart piece c.loop-place.leg.marks c.add_notes.new.marks same c.add_notes.ensures));
    }

pub add_notes-requires : goal.add_notes-requires
add_notes-requires c =
    let store = c.args.store.now in
    let was = c.args.leg.now in
    let piece = c.in-Some.piece.now in
    let one : pieces_of store was.term c.args.hart c.loop-place.place ≡ One piece =
    subst (λ t. pieces_of store t c.args.hart c.loop-place.place ≡ One piece) c.loop-place.invariant.term c.in-Some.ensures.one in
    rw (hart_is store c.requires.rules was.term c.args.hart c.loop-place.place piece one)
    (omega (arith, c.requires.hart, c.loop-place.invariant.notes.many, c.requires.marks))
