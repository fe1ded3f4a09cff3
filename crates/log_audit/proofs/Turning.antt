-- A hart's turn, from what its code has.
use Rattle.std.proofs.Common.{◌≡◌, ℕ, ◌+◌, ◌<◌, ◌≤◌, ◌-◌, ◌^◌, ◌==◌, false, List, [], length, filter, All, slice_get, slice_index_or, Option, Some, None, IfSome, IfNone, refl, ap, sym, subst, ◌∙◌, arith}
use Rattle.ft_types.specs.Counts.{count_at}
use Rattle.interleaving.specs.Log.{IsMet, HasUnmet, bump}
use Rattle.ft_types.specs.declared.names.TheConstants.{HART_LIMIT}
use Rattle.edge_log.specs.declared.Edge.{Edge}
use Rattle.edge_log.specs.EdgeLog.{IsLog, row_of}
use Rattle.input_log.specs.declared.Input.{Input}
use Rattle.input_log.specs.Inputs.{inputs_of, inputs_at}
use Rattle.rv32_hart.specs.Hart.{Hart}
use Rattle.guest_image.specs.Machine.{MachineState}
use Rattle.hart_lease.specs.Runs.{counts_of, steps_taken}
use Rattle.hart_replay.specs.declared.plans.PlannedLeg.{PlannedLeg}
use Rattle.hart_replay.specs.Plans.{log_of, IsLeg}
use Rattle.log_audit.specs.declared.befores.Before.{Before as Entry}
use Rattle.log_audit.specs.declared.harts.Clash.{Clash}
use Rattle.log_audit.specs.machinery.Befores.{Brings}
use Rattle.log_audit.specs.Coverage.{AreUncovered}
use Rattle.log_audit.specs.machinery.Covered.{HartsView, machine_of, steps_left, IsOn, IsCovered, InForce, IsQuietTo, TakesStep, Clashes, GoesOn}
use Rattle.log_audit.proofs.StepAnswers.{there_below, read_state}
use Rattle.log_audit.proofs.Going.{HasGone, has_gone, clashed, took_counted, quiet_covered, quiet_met, quiet_later}
use Rattle.log_audit.proofs.Bringing.{brought_covered, is_met, has_unmet}

-- a hart goes along to a stop
pub record GoesAlong (leg : PlannedLeg) (hart : ℕ) (before : List ℕ) (stop : ℕ) (b c : HartsView) : Type 0 where
  pub start : c.start ≡ b.start
  pub on : IsOn leg c
  pub force : InForce c.befores hart before
  pub quiet : IsQuietTo leg hart (counts_of (machine_of c) hart) stop
  pub left : steps_left leg.ends c.harts ≤ steps_left leg.ends b.harts

-- the hart's state and count, as they were read
at_count : (u v : HartsView) (hart index : ℕ) (state : Hart) (count : ℕ) → u ≡ v → hart < length v.harts → index ≡ hart →
    state ≡ slice_index_or u.harts index state → count ≡ state.count →
    (h : Hart) × (slice_get v.harts hart ≡ Some h) × (state ≡ h) × (count ≡ h.count)
at_count u v hart index state count view lt index_is state_is count_is =
    let place = there_below v.harts hart lt in
    let same : state ≡ place.0 = read_state u.harts v.harts hart index state (ap (λ (s : HartsView). s.harts) view) index_is state_is place.0 place.1 in
    (place.0, place.1, same, count_is ∙ ap (λ (k : Hart). k.count) same)

-- where not all edges at its count are met, the hart waits
pub held_unmet : (leg : PlannedLeg) (u v : HartsView) → u ≡ v → (hart : ℕ) → hart < length v.harts → (index : ℕ) → index ≡ hart → (state : Hart) →
    state ≡ slice_index_or u.harts index state → (count : ℕ) → count ≡ state.count → (here : List Edge) → IsLog leg.edges.start leg.edges.rows →
    here ≡ filter (λ e. e.at == count) (row_of leg.edges hart) → (All (λ e. e.after ≤ counts_of (machine_of v) e.other) here → ⊥) →
    HasUnmet (log_of leg).edges (counts_of (machine_of v)) hart
held_unmet leg u v view hart lt index index_is state state_is count count_is here rules here_is none =
    let turn = at_count u v hart index state count view lt index_is state_is count_is in
    has_unmet leg hart count (counts_of (machine_of v)) here rules here_is (turn.3 ∙ sym (ap steps_taken turn.1)) none

-- a hart below its end may take a step
pub may_step : (harts : List Hart) (hart index : ℕ) → index ≡ hart → (state : Hart) → state ≡ slice_index_or harts index state → (count : ℕ) →
    count ≡ state.count → (end : ℕ) → end < 2 ^ 48 → count < end → state.halted ≡ false → (k : Hart) → slice_get harts hart ≡ Some k →
    (k.halted ≡ false) × (k.count < 2 ^ 48 - 1)
may_step harts hart index index_is state state_is count count_is end limit room running k there =
    let same : state ≡ k = read_state harts harts hart index state refl index_is state_is k there in
    let counted : state.count ≡ k.count = ap (λ (x : Hart). x.count) same in
    (sym (ap (λ (x : Hart). x.halted) same) ∙ running, omega (arith, room, limit, counted, count_is))

pub stop_within : (stop end : ℕ) (ends : List ℕ) (hart : ℕ) → stop ≤ count_at ends hart → end ≡ count_at ends hart → end < 2 ^ 48 → stop < 2 ^ 48
stop_within stop end ends hart within is limit = omega (arith, within, is, limit)

-- the hart's next stop is still that of the step that it took
pub quiet_on : (leg : PlannedLeg) (hart count stop : ℕ) (w : HartsView) → counts_of (machine_of w) hart ≡ count + 1 → IsQuietTo leg hart (count + 1) stop →
    IsQuietTo leg hart (counts_of (machine_of w) hart) stop
quiet_on leg hart count stop w next quiet = subst (λ (n : ℕ). IsQuietTo leg hart n stop) (sym next) quiet

-- the hart went on from its step
pub went_along : (leg : PlannedLeg) (hart count : ℕ) (before : List ℕ) (v w c : HartsView) → HasGone leg hart count before v w → (o : Option Clash) → o ≡ None →
    IfNone o (c.start ≡ w.start) → IfNone o (IsOn leg c) → IfNone o (steps_left leg.ends c.harts ≤ steps_left leg.ends w.harts) → GoesOn leg v c
went_along leg hart count before v w c gone o is start on no_more =
    let no_more_now : steps_left leg.ends c.harts ≤ steps_left leg.ends w.harts =
    subst (λ o. IfNone o (steps_left leg.ends c.harts ≤ steps_left leg.ends w.harts)) is no_more in
    let fewer = gone.fewer in
    record {
      start = subst (λ o. IfNone o (c.start ≡ w.start)) is start ∙ gone.start;
      on = subst (λ o. IfNone o (IsOn leg c)) is on;
      fewer = omega (arith, no_more_now, fewer);
    }

-- a turn, once the edges at its count are brought
module _ (leg : PlannedLeg) (u v : HartsView) (view : u ≡ v) (hart : ℕ) (lt : hart < length v.harts) (index : ℕ) (index_is : index ≡ hart)
    (index_lt : index < HART_LIMIT) (state : Hart) (state_is : state ≡ slice_index_or u.harts index state) (count : ℕ) (count_is : count ≡ state.count)
    (end : ℕ) (end_is : end ≡ count_at leg.ends hart) (room : count < end) (on : IsOn leg v) (rules : IsLog leg.edges.start leg.edges.rows)
    (here : List Edge) (here_is : here ≡ filter (λ e. e.at == count) (row_of leg.edges hart))
    (met : All (λ e. e.after ≤ counts_of (machine_of v) e.other) here) (inputs : List Input)
    (inputs_is : inputs ≡ inputs_at (inputs_of leg.inputs hart) count) (before : List ℕ) (new : List (List Entry))
    (brings : Brings u.befores hart count here before new) where
  turn : (h : Hart) × (slice_get v.harts hart ≡ Some h) × (state ≡ h) × (count ≡ h.count)
  turn = at_count u v hart index state count view lt index_is state_is count_is

  few : hart < HART_LIMIT
  few = omega (arith, index_is, index_lt)

  is_now : count ≡ counts_of (machine_of v) hart
  is_now = turn.3 ∙ sym (ap steps_taken turn.1)

  below : turn.0.count < count_at leg.ends hart
  below = let counted = turn.3 in omega (arith, end_is, room, counted)

  given : inputs ≡ (log_of leg).inputs hart turn.0.count
  given = inputs_is ∙ ap (inputs_at (inputs_of leg.inputs hart)) turn.3

  brought : IsCovered leg on.0 (bump (counts_of (machine_of v)) hart) (record v { befores = new }) × InForce new hart before
  brought =
      brought_covered leg on.0 v on.1 hart few rules here count is_now here_is met before new
      (subst (λ (s : HartsView). Brings s.befores hart count here before new) view brings)

  met_now : IsMet (log_of leg).edges (counts_of (machine_of v)) hart
  met_now = is_met leg on.0 v on.1 hart few rules here count is_now here_is met

  found_first : slice_get u.harts hart ≡ Some turn.0
  found_first = ap (λ (s : HartsView). slice_get s.harts hart) view ∙ turn.1

  pub turn_clashed : (o : Option Clash) (x : Clash) → o ≡ Some x →
      IfSome o (λ x. (k : Hart) → slice_get u.harts hart ≡ Some k →
      (x.one ≡ (hart, k.count)) × Clashes hart k inputs before (record u { befores = new }) x.page x.other) → AreUncovered leg v.start x.page x.one x.other
  turn_clashed o x is clash =
      let both : (x.one ≡ (hart, turn.0.count)) × Clashes hart turn.0 inputs before (record u { befores = new }) x.page x.other =
      subst (λ o. IfSome o (λ x. (k : Hart) → slice_get u.harts hart ≡ Some k →
      (x.one ≡ (hart, k.count)) × Clashes hart k inputs before (record u { befores = new }) x.page x.other)) is clash turn.0 found_first in
      let clashes : Clashes hart turn.0 inputs before (record v { befores = new }) x.page x.other =
      subst (λ (s : HartsView). Clashes hart turn.0 inputs before (record s { befores = new }) x.page x.other) view both.1 in
      subst (λ (one : ℕ × ℕ). AreUncovered leg v.start x.page one x.other) (sym both.0)
      (clashed leg on.0 (record v { befores = new }) hart turn.0 turn.1 brought.0 inputs given below met_now before brought.1 x.page x.other clashes)

  pub turn_gone : (o : Option Clash) (w : HartsView) → o ≡ None →
      IfNone o ((k : Hart) → slice_get u.harts hart ≡ Some k → TakesStep hart k inputs before (record u { befores = new }) w) →
      IsLeg (length v.start.harts) leg → length u.start.harts ≤ HART_LIMIT → HasGone leg hart count before v w
  turn_gone o w is taken is_leg small =
      let took : TakesStep hart turn.0 inputs before (record v { befores = new }) w =
      subst (λ (s : HartsView). TakesStep hart turn.0 inputs before (record s { befores = new }) w) view
      (subst (λ o. IfNone o ((k : Hart) → slice_get u.harts hart ≡ Some k → TakesStep hart k inputs before (record u { befores = new }) w)) is taken turn.0
      found_first) in
      let gone : HasGone leg hart turn.0.count before (record v { befores = new }) w =
      has_gone leg on.0 (record v { befores = new }) hart turn.0 turn.1 brought.0 inputs given below met_now before brought.1 w took is_leg
      (subst (λ (s : HartsView). length s.start.harts ≤ HART_LIMIT) view small) in
      let counted = turn.3 in
      let next = gone.next in
      record {
        start = gone.start;
        there = gone.there;
        leg_is = gone.leg_is;
        on = gone.on;
        force = gone.force;
        next = omega (arith, next, counted);
        fewer = gone.fewer;
      }

-- a hart that has further to go, with neither edges nor inputs on the way
module _ (leg : PlannedLeg) (first u v : HartsView) (view : u ≡ v) (start : v.start ≡ first.start) (hart : ℕ) (lt : hart < length first.harts)
    (index : ℕ) (index_is : index ≡ hart) (state : Hart) (state_is : state ≡ slice_index_or u.harts index state) (count : ℕ)
    (count_is : count ≡ state.count) (stop : ℕ) (room : count < stop) (on_first : IsOn leg first) (on : IsOn leg v)
    (quiet : IsQuietTo leg hart (counts_of (machine_of v) hart) stop) (before : List ℕ) (force : InForce v.befores hart before) where
  still : hart < length v.harts
  still =
      let many = on.1.harts in
      let asked = on_first.1.harts in
      let same = ap (λ (m : MachineState). length m.harts) start in
      omega (arith, lt, same, many, asked)

  at_now : (h : Hart) × (slice_get v.harts hart ≡ Some h) × (state ≡ h) × (count ≡ h.count)
  at_now = at_count u v hart index state count view still index_is state_is count_is

  now : counts_of (machine_of v) hart ≡ at_now.0.count
  now = ap steps_taken at_now.1

  open_now : counts_of (machine_of v) hart < stop
  open_now = let counted = at_now.3 in omega (arith, room, counted, now)

  none_given : [] ≡ (log_of leg).inputs hart at_now.0.count
  none_given = sym (quiet.inputs at_now.0.count (omega (arith, now)) (omega (arith, now, open_now)))

  below_end : at_now.0.count < count_at leg.ends hart
  below_end = let within = quiet.within in omega (arith, within, now, open_now)

  pub quiet_clashed : (o : Option Clash) (x : Clash) → o ≡ Some x →
      IfSome o (λ x. (k : Hart) → slice_get v.harts hart ≡ Some k → (x.one ≡ (hart, k.count)) × Clashes hart k [] before v x.page x.other) →
      AreUncovered leg first.start x.page x.one x.other
  quiet_clashed o x is clash =
      let both : (x.one ≡ (hart, at_now.0.count)) × Clashes hart at_now.0 [] before v x.page x.other =
      subst (λ o. IfSome o (λ x. (k : Hart) → slice_get v.harts hart ≡ Some k → (x.one ≡ (hart, k.count)) × Clashes hart k [] before v x.page x.other)) is
      clash at_now.0 at_now.1 in
      subst (λ (m : MachineState). AreUncovered leg m x.page x.one x.other) start
      (subst (λ (one : ℕ × ℕ). AreUncovered leg v.start x.page one x.other) (sym both.0)
      (clashed leg on.0 v hart at_now.0 at_now.1 (quiet_covered leg on.0 v hart stop on.1 quiet open_now) [] none_given below_end
      (quiet_met leg v hart stop quiet open_now) before force x.page x.other both.1))

  module _ (o : Option Clash) (w : HartsView) (is : o ≡ None)
      (taken : IfNone o ((k : Hart) → slice_get v.harts hart ≡ Some k → TakesStep hart k [] before v w)) where
    took : TakesStep hart at_now.0 [] before v w
    took = subst (λ o. IfNone o ((k : Hart) → slice_get v.harts hart ≡ Some k → TakesStep hart k [] before v w)) is taken at_now.0 at_now.1

    pub quiet_nearer : stop - counts_of (machine_of w) hart < stop - counts_of (machine_of v) hart
    quiet_nearer = let more = took_counted hart at_now.0 [] before v w took in omega (arith, more, now, open_now)

    pub quiet_gone : IsLeg (length first.start.harts) leg → length u.start.harts ≤ HART_LIMIT →
        steps_left leg.ends v.harts ≤ steps_left leg.ends first.harts → GoesAlong leg hart before stop first w
    quiet_gone is_leg few so_far =
        let gone : HasGone leg hart at_now.0.count before v w =
        has_gone leg on.0 v hart at_now.0 at_now.1 (quiet_covered leg on.0 v hart stop on.1 quiet open_now) [] none_given below_end
        (quiet_met leg v hart stop quiet open_now) before force w took
        (subst (λ (m : MachineState). IsLeg (length m.harts) leg) (sym start) is_leg) (subst (λ (s : HartsView). length s.start.harts ≤ HART_LIMIT) view few) in
        let next = gone.next in
        let fewer = gone.fewer in
        record {
          start = gone.start ∙ start;
          on = gone.on;
          force = gone.force;
          quiet = quiet_later leg hart (counts_of (machine_of v) hart) (counts_of (machine_of w) hart) stop (omega (arith, next, now)) quiet;
          left = omega (arith, fewer, so_far);
        }
