use Rattle.std.proofs.Common.{arith, length, ap, subst, ◌∙◌}
use Rattle.log_pieces.specs.machinery.Cutting.{IsFirst}
use Rattle.log_pieces.proofs.cuts.Merging.{merges_nothing, turn_at_edge, turn_at_input, less_edges, less_inputs, merging_ends}
use Rattle.log_pieces.proofs.merging.merged.Goals as goal
use Rattle.log_pieces.proofs.merging.merged.Goals.{in-Edge, in-Input}

pub loop-first-init : goal.loop-first-init
loop-first-init c =
    rw c.new-records.ensures.items
    (record {
      paired = c.requires.paired;
      edges_rise = c.requires.edges;
      counts_rise = c.requires.counts;
      merges = merges_nothing _ _;
    })

pub loop-first-smaller : goal.loop-first-smaller
loop-first-smaller c =
    let first = c.in-Some.ensures.first in
    elim c.match-first.branch [
      | in-Edge w ↦
          let less = less_edges _ _ _ _ _ _ first w.in-Edge.is (ap (λ b. b.now) w.edges_left-is ∙ w.split_at.ensures.back) in
          let same = ap (λ b. b.now) w.counts_left-is in
          omega (arith, less, ap length same)
      | in-Input w ↦
          let less = less_inputs _ _ _ _ _ _ _ first w.in-Input.is (ap (λ b. b.now) w.counts_left-is ∙ w.split_at-in-Input.ensures.back) in
          let same = ap (λ b. b.now) w.edges_left-is in
          omega (arith, less, ap length same)
    ]

pub loop-first-preserved : goal.loop-first-preserved
loop-first-preserved c =
    let first = c.in-Some.ensures.first in
    elim c.match-first.branch [
      | in-Edge w ↦
          turn_at_edge c.loop-first.invariant first c.in_ok-push.ensures.items _ w.in-Edge.is (ap (λ b. b.now) w.edges_left-is ∙ w.split_at.ensures.back)
          (ap (λ b. b.now) w.counts_left-is) (ap (λ b. b.now) w.inputs_left-is)
      | in-Input w ↦
          turn_at_input c.loop-first.invariant first c.in_ok-push.ensures.items _ _ w.in-Input.is (ap (λ b. b.now) w.edges_left-is)
          (ap (λ b. b.now) w.counts_left-is ∙ w.split_at-in-Input.ensures.back) (ap (λ b. b.now) w.inputs_left-is ∙ w.split_at-in-Input-2.ensures.back)
    ]

pub returns-clause-told : goal.returns-clause-told
returns-clause-told c =
    let h = c.in_default.ensures.none in
    merging_ends _ _ _ _ _ _ _ c.loop-first.invariant h.0 h.1

pub unreachable-requires : goal.unreachable-requires
unreachable-requires c = subst (IsFirst _ _ _) c.in-Note.is c.in-Some.ensures.first
