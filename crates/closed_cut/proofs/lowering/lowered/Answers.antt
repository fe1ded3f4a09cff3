use Rattle.std.proofs.Common.{◌≡◌, ◌<◌, ◌+◌, ◌-◌, length, sum_by, set, get_or, length-set, subst, sym, arith, ◌∙◌}
use Rattle.std.proofs.lemmas.List.Sums.{sum_by-set}
use Rattle.std.specs.List.{HoldsAt}
use Rattle.ft_types.specs.Counts.{count_at}
use Rattle.ft_types.specs.declared.names.TheConstants.{HART_ROW}
use Rattle.closed_cut.specs.machinery.Lowering.{AreOf}
use Rattle.closed_cut.proofs.Lowerings.{AreStopped, lowered_on, ends_after, stopped_after, closed_after}
use Rattle.closed_cut.proofs.lowering.lowered.Goals as goal

pub loop-hart-preserved : goal.loop-hart-preserved
loop-hart-preserved c =
    let edges = c.args.edges.now in
    let ends = c.loop-hart.ends in
    let at = c.index-index.result in
    let wide : length ends ≡ HART_ROW = c.loop-hart.invariant.wide in
    let there : at < length ends = omega arith in
    let same : at ≡ c.in-Some.hart = c.index-index.ensures.value in
    record {
      lowered = lowered_on edges c.args.bound c.loop-hart.cut c.fall.new.cut c.loop-hart.invariant.lowered c.fall.ensures.lowered;
      wide = length-set ends at c.fall.result ∙ wide;
      ends = ends_after edges ends at c.fall.result there c.fall.ensures.within c.loop-hart.invariant.ends;
      stopped =
          stopped_after edges ends at c.fall.result there c.loop-hart.cut c.fall.new.cut c.fall.ensures.lowered.below
          (subst (λ n. AreStopped edges c.fall.new.cut n c.fall.result (get_or ends at 0)) (sym same) c.fall.ensures.stopped)
          c.loop-hart.invariant.stopped;
    }

pub loop-hart-smaller : goal.loop-hart-smaller
loop-hart-smaller c =
    let ends = c.loop-hart.ends in
    let at = c.index-index.result in
    let wide : length ends ≡ HART_ROW = c.loop-hart.invariant.wide in
    let there : at < length ends = omega arith in
    let back = sym c.index-index.ensures.value in
    let some : 0 < get_or ends at 0 = subst (λ n. 0 < get_or ends n 0) back c.in-Some.ensures.some in
    let less : c.fall.result < get_or ends at 0 =
    c.fall.ensures.falls some (subst (λ n. HoldsAt (λ e. count_at c.loop-hart.cut c.in-Some.hart < e.after) c.args.edges.now (get_or ends n 0 - 1)) back
    c.in-Some.ensures.unmet) in
    let sums : sum_by (λ n. n) (set ends at c.fall.result) + get_or ends at 0 ≡ sum_by (λ n. n) ends + c.fall.result = sum_by-set (λ n. n) ends at c.fall.result
    0 there in
    omega arith

pub returns-clause-greatest : goal.returns-clause-greatest
returns-clause-greatest c =
    record {
      closed =
          closed_after c.args.edges.now c.loop-hart.ends c.loop-hart.cut
          (subst (λ n. AreOf n c.args.edges.now) (sym c.loop-hart.invariant.lowered.harts) c.requires.edges)
          c.in_default.ensures.limit c.loop-hart.invariant.stopped c.in_default.ensures.none;
      below = c.loop-hart.invariant.lowered.below;
      greatest = c.loop-hart.invariant.lowered.keeps;
    }
