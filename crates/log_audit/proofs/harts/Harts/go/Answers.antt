use Rattle.std.proofs.Common.{◌≡◌, inr, ℕ, ◌+◌, List, length, Contains, ◌==◌, slice_index_or, slice_get, Some, IfSome, refl, ap, sym, subst, ◌∙◌, arith, true≢false, rules}
use Rattle.std.proofs.lemmas.List.{get_or_default}
use Rattle.edge_log.specs.declared.Edge.{Edge}
use Rattle.edge_log.specs.EdgeLog.{row_of}
use Rattle.edge_log.proofs.Logs.{of_row}
use Rattle.rv32_hart.specs.Hart.{Hart}
use Rattle.guest_image.specs.Machine.{MachineState}
use Rattle.hart_lease.specs.Runs.{counts_of}
use Rattle.log_audit.specs.Coverage.{AreUncovered}
use Rattle.log_audit.specs.machinery.Marks.{IsMarkedBelow}
use Rattle.log_audit.specs.machinery.Covered.{HartsView, machine_of}
use Rattle.log_audit.proofs.Covering.{marks_below}
use Rattle.log_audit.proofs.Bringing.{of_filter}
use Rattle.log_audit.proofs.Turning.{held_unmet, may_step, stop_within, turn_clashed, turn_gone, quiet_on, went_along}
use Rattle.log_audit.proofs.harts.Harts.go.Goals as goal

pub are_met-requires : goal.are_met-requires
are_met-requires c =
    let as_many = c.requires.leg.harts in
    let start : length c.args.leg.now.edges.start ≡ length c.args.leg.now.base = ap (λ (l : List ℕ). length l) c.requires.leg.start in
    let harts = c.requires.on.1.harts in
    λ k d lt.
    let there : Contains c.at-edges.result.now (slice_index_or c.at-edges.result.now k d) = (k, lt, get_or_default c.at-edges.result.now k (slice_index_or c.at-edges.result.now k d) d lt) in
    let (stands, at) = of_filter (λ (e : Edge). e.at == c.count-count.result) (row_of c.args.leg.now.edges c.args.hart) (slice_index_or c.at-edges.result.now k d)
    (subst (λ (l : List Edge). Contains l (slice_index_or c.at-edges.result.now k d)) c.at-edges.ensures.value there) in
    let of = of_row c.args.leg.now.edges.start c.args.leg.now.edges.rows c.at-edges.ensures.rules c.args.hart (slice_index_or c.at-edges.result.now k d) stands in
    let other = of.other in
    omega (arith, other, start, as_many, harts)

pub returns-then-not-are_met : goal.returns-then-not-are_met
returns-then-not-are_met c =
    record {
      turns = (
        refl,
        λ k there. inr (inr (held_unmet c.args.leg.now _ c.args.self.now c.self.view_is c.args.hart c.requires.hart c.index.result c.index.ensures.value
            c.index-state.result.now c.index-state.ensures c.count-count.result c.count-count.ensures.value c.at-edges.result.now c.at-edges.ensures.rules
            c.at-edges.ensures.value (λ all. true≢false (sym (c.if-not-are_met.ensures.1 all))))),
      );
    }

pub step-requires-clause-runs : goal.step-requires-clause-runs
step-requires-clause-runs c =
    may_step _ c.args.hart c.index.result c.index.ensures.value c.index-state.result.now c.index-state.ensures c.count-count.result c.count-count.ensures.value
    c.count_of.result c.count_of.ensures.limit c.if-count_of-count.false (sym c.is_halted.ensures ∙ c.if-is_halted.false)

pub step-requires-clause-marks : goal.step-requires-clause-marks
step-requires-clause-marks c =
    let on = c.requires.on in
    subst (λ (s : HartsView). (k : Hart) → slice_get s.harts c.args.hart ≡ Some k → IsMarkedBelow s.pages c.args.hart (k.count + 1)) (sym c.self.view_is)
    (λ k there. marks_below c.args.leg.now on.0 (counts_of (machine_of c.args.self.now)) c.args.self.now on.1 c.args.hart k there)

pub returns-in-Some : goal.returns-in-Some
returns-in-Some c =
    record {
      turns = turn_clashed c.args.leg.now _ c.args.self.now c.self.view_is c.args.hart c.requires.hart c.index.result c.index.ensures.value c.index.ensures.below
          c.index-state.result.now c.index-state.ensures c.count-count.result c.count-count.ensures.value c.count_of.result c.count_of.ensures.value
          c.if-count_of-count.false c.requires.on c.at-edges.ensures.rules c.at-edges.result.now c.at-edges.ensures.value
          (c.are_met.ensures.0 (search rules)) c.at.result.now c.at.ensures.value c.in_ok-before.before c.bring.new.self c.in_ok-before.ensures
          _ c.in-Some.clash c.in-Some.is c.in_ok-clash.ensures.clash;
    }

pub go_to-requires : goal.go_to-requires
go_to-requires c =
    let gone = turn_gone c.args.leg.now _ c.args.self.now c.self.view_is c.args.hart c.requires.hart c.index.result c.index.ensures.value c.index.ensures.below
    c.index-state.result.now c.index-state.ensures c.count-count.result c.count-count.ensures.value c.count_of.result c.count_of.ensures.value
    c.if-count_of-count.false c.requires.on c.at-edges.ensures.rules c.at-edges.result.now c.at-edges.ensures.value
    (c.are_met.ensures.0 (search rules)) c.at.result.now c.at.ensures.value c.in_ok-before.before c.bring.new.self c.in_ok-before.ensures
    _ c.step.new.self c.in_default.is c.in_ok-clash.ensures.taken c.requires.leg c.self.invariant.few in
    record {
      hart = gone.there;
      stop = stop_within _ _ c.args.leg.now.ends c.args.hart c.stop_of.ensures.within c.count_of.ensures.value c.count_of.ensures.limit;
      leg = gone.leg_is;
      on = gone.on;
      before = gone.force;
      quiet = quiet_on c.args.leg.now c.args.hart c.count-count.result c.stop_of.result c.step.new.self gone.next c.stop_of.ensures;
    }

pub returns-in-Some-2 : goal.returns-in-Some-2
returns-in-Some-2 c =
    let gone = turn_gone c.args.leg.now _ c.args.self.now c.self.view_is c.args.hart c.requires.hart c.index.result c.index.ensures.value c.index.ensures.below
    c.index-state.result.now c.index-state.ensures c.count-count.result c.count-count.ensures.value c.count_of.result c.count_of.ensures.value
    c.if-count_of-count.false c.requires.on c.at-edges.ensures.rules c.at-edges.result.now c.at-edges.ensures.value
    (c.are_met.ensures.0 (search rules)) c.at.result.now c.at.ensures.value c.in_ok-before.before c.bring.new.self c.in_ok-before.ensures
    _ c.step.new.self c.in_default.is c.in_ok-clash.ensures.taken c.requires.leg c.self.invariant.few in
    let clash = subst (λ o. IfSome o (λ x. AreUncovered c.args.leg.now c.step.new.self.start x.page x.one x.other)) c.in-Some-2.is
    c.in_ok-clash-2.ensures.clash in
    record {
      turns =
          subst (λ (m : MachineState). AreUncovered c.args.leg.now m c.in-Some-2.clash.page c.in-Some-2.clash.one c.in-Some-2.clash.other) gone.start clash;
    }

pub returns-in-None : goal.returns-in-None
returns-in-None c =
    let gone = turn_gone c.args.leg.now _ c.args.self.now c.self.view_is c.args.hart c.requires.hart c.index.result c.index.ensures.value c.index.ensures.below
    c.index-state.result.now c.index-state.ensures c.count-count.result c.count-count.ensures.value c.count_of.result c.count_of.ensures.value
    c.if-count_of-count.false c.requires.on c.at-edges.ensures.rules c.at-edges.result.now c.at-edges.ensures.value
    (c.are_met.ensures.0 (search rules)) c.at.result.now c.at.ensures.value c.in_ok-before.before c.bring.new.self c.in_ok-before.ensures
    _ c.step.new.self c.in_default.is c.in_ok-clash.ensures.taken c.requires.leg c.self.invariant.few in
    record {
      turns = went_along c.args.leg.now c.args.hart c.count-count.result c.in_ok-before.before c.args.self.now c.step.new.self c.go_to.new.self gone _ c.in-None.is
          c.in_ok-clash-2.ensures.start c.in_ok-clash-2.ensures.on c.in_ok-clash-2.ensures.no_more;
    }
