-- A leg whose run is covered and comes to its ends leads to one machine, in whatever order its harts go.
use Rattle.std.proofs.Common.{◌≡◌, inl, inr, ℕ, ◌<◌, ◌≤◌, List, Option, Some, All, Contains, length, refl, sym, ap, subst, ◌∙◌, arith}
use Rattle.std.proofs.Math.Path.{fun_ext}
use Rattle.std.proofs.lemmas.Bool.{cases_lt}
use Rattle.std.proofs.lemmas.List.Elements.{All-contains}
use Rattle.ft_types.specs.Counts.{count_at}
use Rattle.interleaving.specs.Machine.{Machine, counts}
use Rattle.interleaving.specs.Log.{Edge, IsClosed, IsHonest, IsSchedule, IsReplayed, IsStuck, Begins, counts_after}
use Rattle.interleaving.specs.Stored.{system_of, view}
use Rattle.interleaving.proofs.Cuts.{start_closed}
use Rattle.interleaving.proofs.Lists.{runs_stored, one_outcome}
use Rattle.interleaving.proofs.Replay.{confluence}
use Rattle.edge_log.specs.EdgeLog.{IsOfHart, row_of}
use Rattle.edge_log.proofs.Logs.{Found, from_edges}
use Rattle.rv32_hart.specs.Hart.{Hart}
use Rattle.rv32_hart.specs.Hardware.{hardware}
use Rattle.guest_image.specs.Machine.{MachineState}
use Rattle.hart_lease.specs.Runs.{run_of, counts_of}
use Rattle.hart_lease.proofs.journals.Counts.{counts_is}
use Rattle.hart_lease.proofs.journals.Sizes.{is_run, as_large}
use Rattle.hart_replay.specs.declared.plans.PlannedLeg.{PlannedLeg}
use Rattle.hart_replay.specs.Plans.{IsLeg, log_of}
use Rattle.hart_replay.specs.Replays.{leg_turns, LegLeads, GetsStuck}
use Rattle.log_audit.specs.Coverage.{LegAgrees}
use Rattle.log_audit.specs.machinery.Covered.{HartsView, machine_of, IsCovered, IsOn}
use Rattle.log_audit.proofs.Appending.{begins_within, steps_given, steps_met}
use Rattle.log_audit.proofs.Covering.{ran, counts_are}

-- no edge of the leg is of a step before its start
pub from_start : (leg : PlannedLeg) (many : ℕ) → IsLeg many leg → ((hart : ℕ) → All (IsOfHart leg.edges.start hart) (row_of leg.edges hart)) →
    (e : Edge) → Contains (log_of leg).edges e → (log_of leg).start e.hart ≤ e.step
from_start leg many is_leg own e has =
    let f : Found leg.edges.rows e = from_edges leg.edges.rows e has in
    let of : IsOfHart leg.edges.start f.hart f.edge = All-contains (IsOfHart leg.edges.start f.hart) (row_of leg.edges f.hart) f.edge (own f.hart) f.is_in in
    let hart : f.hart ≡ e.hart = sym of.own ∙ ap (λ (x : Edge). x.hart) f.is in
    let step : f.edge.at ≡ e.step = ap (λ (x : Edge). x.step) f.is in
    let low : count_at leg.edges.start f.hart ≤ f.edge.at = of.from_start in
    let here : count_at leg.edges.start f.hart ≡ count_at leg.base e.hart =
    ap (λ (s : List ℕ). count_at s f.hart) is_leg.start ∙ ap (count_at leg.base) hart in
    omega (arith, step, low, here)

pub leg_start_closed : (leg : PlannedLeg) (many : ℕ) → IsLeg many leg → ((hart : ℕ) → All (IsOfHart leg.edges.start hart) (row_of leg.edges hart)) →
    IsClosed (log_of leg).edges (log_of leg).start
leg_start_closed leg many is_leg own = start_closed (log_of leg).edges (log_of leg).start (from_start leg many is_leg own)

module _ (leg : PlannedLeg) (v : HartsView) (is_leg : IsLeg (length v.start.harts) leg) (base : (hart : ℕ) → count_at leg.base hart ≡ counts_of v.start hart)
    (closed : IsClosed (log_of leg).edges (log_of leg).start) (order : List ℕ) (covered : IsCovered leg order (counts_of (machine_of v)) v)
    (complete : (hart : ℕ) → hart < length v.harts → count_at leg.ends hart ≤ counts_of (machine_of v) hart) where
  at_ends : (hart : ℕ) → counts_after (log_of leg).start order hart ≡ count_at leg.ends hart
  at_ends hart =
      let most : counts_after (log_of leg).start order hart ≤ count_at leg.ends hart =
      begins_within (log_of leg).edges (count_at leg.ends) (log_of leg).start order covered.begins is_leg.cut.from_start hart in
      elim (cases_lt hart (length v.harts)) [
        | inl there ↦
            let least = complete hart there in
            let now : counts_after (log_of leg).start order hart ≡ counts_of (machine_of v) hart = covered.counts hart in
            omega (arith, most, least, now)
        | inr over ↦
            let none : count_at leg.ends hart ≡ 0 = is_leg.no_others hart (omega (arith, over, covered.harts)) in
            omega (arith, most, none)
      ]

  schedule : IsSchedule (log_of leg) (count_at leg.ends) order
  schedule = record { begins = covered.begins; complete = at_ends }

  started : (log_of leg).start ≡ counts (system_of (hardware (length v.start.pages))) (view (hardware (length v.start.pages)) v.start)
  started = fun_ext (λ hart. base hart ∙ sym (counts_is (length v.start.pages) v.start hart))

  -- the leg's log tells of the covered run
  pub honest : IsHonest (system_of (hardware (length v.start.pages))) (log_of leg) (view (hardware (length v.start.pages)) v.start) (leg_turns leg order)
  honest =
      record {
        runs = (ran leg order (counts_of (machine_of v)) v covered).runs;
        inputs =
            steps_given (system_of (hardware (length v.start.pages))) (log_of leg) order (log_of leg).start
            (view (hardware (length v.start.pages)) v.start) started (ran leg order (counts_of (machine_of v)) v covered).runs;
        start = λ hart. ap (λ (now : ℕ → ℕ). now hart) started;
        end =
            λ hart.
            sym (at_ends hart) ∙ covered.counts hart ∙ sym (ap (λ (now : ℕ → ℕ). now hart) (counts_are leg order (counts_of (machine_of v)) v covered));
        closed = closed;
        met =
            steps_met (system_of (hardware (length v.start.pages))) (log_of leg).edges (count_at leg.ends) (log_of leg).inputs order (log_of leg).start
            (view (hardware (length v.start.pages)) v.start) covered.begins;
        ordered = covered.ordered;
      }

  module _ (other : List ℕ) (begins : Begins (log_of leg).edges (count_at leg.ends) (log_of leg).start other) where
    replayed : IsReplayed (system_of (hardware (length v.start.pages))) (log_of leg) (view (hardware (length v.start.pages)) v.start) (leg_turns leg order)
        (count_at leg.ends) other
    replayed =
        confluence (system_of (hardware (length v.start.pages))) (log_of leg) (view (hardware (length v.start.pages)) v.start) (leg_turns leg order)
        (count_at leg.ends) other honest is_leg.cut begins

    runs_too : (k : MachineState) × (run_of v.start (leg_turns leg other) ≡ Some k)
    runs_too = let (k, is, same) = runs_stored (hardware (length v.start.pages)) v.start (leg_turns leg other) replayed.runs in (k, is)

  not_stuck : (other : List ℕ) (k : MachineState) → GetsStuck leg v.start other k → ⊥
  not_stuck other k stuck =
      (replayed other stuck.begins).not_stuck
      (subst (λ (x : Machine (Option Hart) (Option (List ℕ))). StuckOn (length v.start.pages) x)
      (is_run (length v.start.pages) v.start k (leg_turns leg other) refl stuck.run).is
      (subst (λ (n : ℕ). StuckOn n (view (hardware n) k)) (as_large v.start k (leg_turns leg other) stuck.run).pages stuck.stuck))
    where
      StuckOn : ℕ → Machine (Option Hart) (Option (List ℕ)) → Type 0
      StuckOn n x = IsStuck (system_of (hardware n)) (log_of leg).edges (count_at leg.ends) (counts_after (log_of leg).start other) x

  only : (k : MachineState) → LegLeads leg v.start k → k ≡ machine_of v
  only k (other, leads, is) =
      let (result, first, second, same) =
      one_outcome (hardware (length v.start.pages)) (log_of leg) v.start (leg_turns leg order) (count_at leg.ends) order other honest is_leg.cut schedule
      leads in
      let here : Some (machine_of v) ≡ Some result = sym covered.run ∙ first in
      let there : Some k ≡ Some result = sym is ∙ second in
      cc

  agrees : LegAgrees leg v.start (machine_of v)
  agrees = record { leads = (order, schedule, covered.run); runs = runs_too; not_stuck = not_stuck; only = only }

pub leg_agrees : (leg : PlannedLeg) (v : HartsView) → IsLeg (length v.start.harts) leg → ((hart : ℕ) → count_at leg.base hart ≡ counts_of v.start hart) →
    IsClosed (log_of leg).edges (log_of leg).start → IsOn leg v →
    ((hart : ℕ) → hart < length v.harts → count_at leg.ends hart ≤ counts_of (machine_of v) hart) → LegAgrees leg v.start (machine_of v)
leg_agrees leg v is_leg base closed (order, covered) complete = agrees leg v is_leg base closed order covered complete
