use Rattle.std.proofs.Common.{◌≡◌, ◌+◌, ◌<◌, ◌^◌, List, ◌++◌, refl, sym, ap, arith, ◌∙◌}
use Rattle.std.proofs.lemmas.List.{append-nil}
use Rattle.std.specs.List.{filter_map}
use Rattle.fragment_codec.specs.declared.types.Record.{Record}
use Rattle.log_join.specs.Cells.{One}
use Rattle.fragment_codec.specs.Facts.{edge_in}
use Rattle.closed_cut.specs.Position.{pieces_of}
use Rattle.closed_cut.proofs.Walking.{goes_on, gathered_on, no_place}
use Rattle.closed_cut.proofs.gathering.gather.Goals as goal

pub loop-place-init : goal.loop-place-init
loop-place-init c = record { goes = refl; limit = c.requires; edges = sym (append-nil c.args.edges.now.items) }

pub loop-place-preserved : goal.loop-place-preserved
loop-place-preserved c =
    let piece = c.in-Some.piece.now in
    let pieces = pieces_of c.args.store.now c.args.term c.args.hart in
    let one : pieces c.loop-place.place ≡ One piece = c.in-Some.ensures.one in
    let same : piece.from ≡ c.loop-place.end = c.in-Some.ensures.from in
    let fits = c.piece_from.ensures.rules.fragments _ piece one in
    record {
      goes = rw c.to-end.ensures (goes_on pieces c.args.from c.loop-place.place c.loop-place.end piece c.loop-place.invariant.goes one same);
      limit = rw c.to-end.ensures fits.rules.end;
      edges =
          gathered_on pieces c.loop-place.place piece c.args.edges.now.items c.loop-place.edges.items c.add_edges.new.edges.items one
          c.loop-place.invariant.edges (c.in_ok-add_edges.ensures ∙ ap (λ (rs : List Record). c.loop-place.edges.items ++ filter_map edge_in rs)
          c.records.ensures.records);
    }

pub returns-in_default-clause-gathered : goal.returns-in_default-clause-gathered
returns-in_default-clause-gathered c =
    record {
      places = c.loop-place.place;
      goes = c.loop-place.invariant.goes;
      stops = c.in_default.ensures.none;
      edges = c.loop-place.invariant.edges;
    }

pub returns-in_ok-add_edges-clause-gathered : goal.returns-in_ok-add_edges-clause-gathered
returns-in_ok-add_edges-clause-gathered c =
    let piece = c.in-Some.piece.now in
    let pieces = pieces_of c.args.store.now c.args.term c.args.hart in
    let one : pieces c.loop-place.place ≡ One piece = c.in-Some.ensures.one in
    let same : piece.from ≡ c.loop-place.end = c.in-Some.ensures.from in
    record {
      places = c.loop-place.place + 1;
      goes = rw c.to-end.ensures (goes_on pieces c.args.from c.loop-place.place c.loop-place.end piece c.loop-place.invariant.goes one same);
      stops =
          λ piece at from.
          let less : c.loop-place.place + 1 < 2 ^ 32 = no_place c.args.store.now c.args.term c.args.hart (c.loop-place.place + 1) piece
          c.piece_from.ensures.rules at in
          absurd (omega arith);
      edges =
          gathered_on pieces c.loop-place.place piece c.args.edges.now.items c.loop-place.edges.items c.add_edges.new.edges.items one
          c.loop-place.invariant.edges (c.in_ok-add_edges.ensures ∙ ap (λ (rs : List Record). c.loop-place.edges.items ++ filter_map edge_in rs)
          c.records.ensures.records);
    }
