use Rattle.std.proofs.Common.{◌≡◌, ◌<◌, ◌-◌, Contains, sym, ap, arith, ◌∙◌}
use Rattle.std.proofs.lemmas.Bool.{eqb-true, eqb-false}
use Rattle.ft_types.specs.Counts.{count_at}
use Rattle.closed_cut.proofs.Lowerings.{lowered_on, stopped_step}
use Rattle.closed_cut.proofs.lowering.fall.Goals as goal
use Rattle.closed_cut.proofs.lowering.fall.Goals.{then-eq, else-eq}

pub loop-place-preserved : goal.loop-place-preserved
loop-place-preserved c =
    let edge = c.index-edges-place.result in
    let edges = c.args.edges.now in
    elim c.if-eq.branch [
      | then-eq w ↦
          let same : edge.other ≡ c.args.hart = eqb-true edge.other c.args.hart (sym c.eq.ensures ∙ w.if-eq.true) in
          let at : count_at c.loop-place.cut edge.other ≡ count_at c.loop-place.cut c.args.hart = ap (count_at c.loop-place.cut) same in
          let short : count_at c.loop-place.cut edge.other < edge.after = omega arith in
          let has : Contains edges edge = (c.loop-place.place - 1, (omega arith), sym c.index-edges-place.is) in
          let step = w.stop_before.ensures.lowered edges has short in
          rw w.cut-is
          (record {
            within = omega arith;
            stopped =
                stopped_step edges c.loop-place.cut w.stop_before.new.cut c.args.hart c.loop-place.place c.args.end edge step.below (omega arith) (omega arith)
                c.index-edges-place.is (λ same. w.stop_before.ensures.stopped) c.loop-place.invariant.stopped;
            lowered = lowered_on edges c.args.cut.now c.loop-place.cut w.stop_before.new.cut c.loop-place.invariant.lowered step;
            unmoved = λ e. absurd (omega arith);
          })
      | else-eq w ↦
          rw w.cut-is
          (record {
            within = omega arith;
            stopped =
                stopped_step edges c.loop-place.cut c.loop-place.cut c.args.hart c.loop-place.place c.args.end edge (λ h. omega arith) (omega arith)
                (omega arith)
                c.index-edges-place.is (λ same. absurd (eqb-false edge.other c.args.hart (sym c.eq.ensures ∙ w.if-eq.false) same))
                c.loop-place.invariant.stopped;
            lowered = c.loop-place.invariant.lowered;
            unmoved = λ e. absurd (omega arith);
          })
    ]
