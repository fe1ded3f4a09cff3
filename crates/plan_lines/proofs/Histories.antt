-- A line, as legs that were led and a leg that its harts have come along; at its end it is an outcome of the plan.
use Rattle.std.proofs.Common.{◌≡◌, ℕ, ◌+◌, List, [], ◌∷◌, ◌++◌, Option, Some, length, take, slice_get, refl, ap, sym, subst, ◌∙◌, arith}
use Rattle.std.proofs.Math.Path.{fun_ext}
use Rattle.std.proofs.lemmas.List.{take_all}
use Rattle.ft_types.specs.Counts.{count_at}
use Rattle.interleaving.specs.Machine.{Turn}
use Rattle.interleaving.specs.Log.{Begins, counts_after, turns_of}
use Rattle.interleaving.specs.Stored.{run_from}
use Rattle.input_log.specs.declared.Input.{Input}
use Rattle.rv32_hart.specs.Hardware.{hardware}
use Rattle.guest_image.specs.Image.{ImageContents, guest_of}
use Rattle.guest_image.specs.Machine.{MachineState, boot_machine}
use Rattle.hart_lease.specs.Runs.{run_of, counts_of}
use Rattle.hart_lease.proofs.journals.Runs.{run_from-append}
use Rattle.hart_lease.proofs.journals.Sizes.{as_large, counts_ran}
use Rattle.log_audit.proofs.Appending.{begins_more, turns_more}
use Rattle.log_audit.proofs.Lists.{take_more}
use Rattle.hart_replay.specs.declared.plans.PlannedLeg.{PlannedLeg}
use Rattle.hart_replay.specs.Plans.{IsPlan, log_of}
use Rattle.hart_replay.specs.Replays.{leg_turns, LegLeads, LegsLead, IsOutcome}
use Rattle.hart_replay.specs.Leading.{AreAtEnds}
use Rattle.least_cuts.proofs.Legs.{next_base, first_base, led_more, one_leg}
use Rattle.plan_lines.specs.Line.{IsNext, Steps, Standing, standing_at, turned, Leads}
use Rattle.plan_lines.specs.Line.{Begins as BeginsThere, StepsOn, TurnsOn}
use Rattle.plan_lines.specs.Laws.{EndsAreOutcomes}
use Rattle.plan_lines.specs.machinery.Kept.{IsBegun}
use Rattle.plan_lines.proofs.Standings.{holds_at, ended_counts}
use Rattle.plan_lines.proofs.Cutting.{begun_at_boot}

-- in this order the leg's harts came from the one machine to the other
pub record ComesAlong (leg : PlannedLeg) (found now : MachineState) (order : List ℕ) : Type 0 where
  pub base : (hart : ℕ) → count_at leg.base hart ≡ counts_of found hart
  pub begins : Begins (log_of leg).edges (count_at leg.ends) (log_of leg).start order
  pub run : run_of found (leg_turns leg order) ≡ Some now

-- the legs before its place led to a machine, from which the harts of the one there came along
pub record HasCome (legs : List PlannedLeg) (start : MachineState) (t : Standing) : Type 0 where
  pub found : MachineState
  pub led : LegsLead (take t.place legs) start found
  pub order : List ℕ
  pub along : (leg : PlannedLeg) → slice_get legs t.place ≡ Some leg → ComesAlong leg found t.machine order

comes_begun : (leg : PlannedLeg) (m : MachineState) → ((hart : ℕ) → count_at leg.base hart ≡ counts_of m hart) → ComesAlong leg m m []
comes_begun leg m base = record { base = base; begins = tt; run = refl }

comes_on : (leg : PlannedLeg) (found m n : MachineState) (order : List ℕ) (hart : ℕ) → ComesAlong leg found m order → IsNext leg m hart → Steps leg m hart n →
    ComesAlong leg found n (order ++ hart ∷ [])
comes_on leg found m n order hart come next steps =
    record {
      base = come.base;
      begins =
          begins_more (log_of leg).edges (count_at leg.ends) (log_of leg).start order hart come.begins (
            let below = next.may.below in omega (arith, below, now hart),
            λ e has own at.
                let le = next.may.met e has own (at ∙ now hart) in
                let of_other = now e.other in
                omega (arith, le, of_other),
          );
      run =
          ap (run_from (hardware (length found.pages)) (Some found)) (turns_more (log_of leg).inputs (log_of leg).start order hart)
          ∙ run_from-append (hardware (length found.pages)) (Some found) (leg_turns leg order) (next_turn (counts_after (log_of leg).start order hart) ∷ [])
          ∙ ap (λ (o : Option MachineState). run_from (hardware (length found.pages)) o (next_turn (counts_after (log_of leg).start order hart) ∷ [])) come.run
          ∙ ap (λ (k : ℕ). run_from (hardware (length found.pages)) (Some m) (next_turn k ∷ [])) (now hart)
          ∙ ap (λ (size : ℕ). run_from (hardware size) (Some m) (next_turn (counts_of m hart) ∷ [])) (sym (as_large found m (leg_turns leg order) come.run).pages)
          ∙ steps;
    }
  where
    next_turn : ℕ → Turn (List Input)
    next_turn k = record { hart = hart; input = (log_of leg).inputs hart k }

    based : count_at leg.base ≡ counts_of found
    based = fun_ext come.base

    now : (g : ℕ) → counts_after (log_of leg).start order g ≡ counts_of m g
    now g =
        ap (λ (c : ℕ → ℕ). counts_after c order g) based
        ∙ ap (λ (c : ℕ → ℕ). c g)
        (sym (counts_ran found m (log_of leg).inputs order
        (ap (λ (c : ℕ → ℕ). run_of found (turns_of (log_of leg).inputs c order)) (sym based) ∙ come.run)))

module _ (image : ImageContents) (legs : List PlannedLeg) (plan : IsPlan (guest_of image) legs) (start : MachineState)
    (begun : IsBegun (guest_of image) legs (standing_at start)) where
  -- a leg that was come along to its ends was led
  leads_to : (t : Standing) (leg : PlannedLeg) → Leads legs (standing_at start) t → slice_get legs t.place ≡ Some leg → AreAtEnds t.machine leg.ends →
      (come : HasCome legs start t) → LegLeads leg come.found t.machine
  leads_to t leg leads at ends come =
      let along = come.along leg at in
      let holds = holds_at (guest_of image) legs plan (standing_at start) t begun leads in (
        come.order,
        record {
          begins = along.begins;
          complete = λ hart. now along hart ∙ ended_counts (guest_of image) legs plan t leg holds at ends hart;
        },
        along.run,
      )
    where
      now : ComesAlong leg come.found t.machine come.order → (g : ℕ) → counts_after (log_of leg).start come.order g ≡ counts_of t.machine g
      now along g =
          ap (λ (c : ℕ → ℕ). counts_after c come.order g) (fun_ext along.base)
          ∙ ap (λ (c : ℕ → ℕ). c g)
          (sym (counts_ran come.found t.machine (log_of leg).inputs come.order
          (ap (λ (c : ℕ → ℕ). run_of come.found (turns_of (log_of leg).inputs c come.order)) (sym (fun_ext along.base)) ∙ along.run)))

  pub has_come : (t : Standing) → Leads legs (standing_at start) t → HasCome legs start t
  has_come t BeginsThere =
      record {
        found = start;
        led = refl;
        order = [];
        along = λ leg at. comes_begun leg start (λ hart. first_base (λ h. 0) legs leg plan.on at hart ∙ sym (begun.boot hart));
      }
  has_come t (StepsOn {t = u} leg hart n leads at next steps) =
      let come = has_come u leads in
      record {
        found = come.found;
        led = come.led;
        order = come.order ++ hart ∷ [];
        along = λ other there.
            let same = one_leg legs u.place leg other at there in
            comes_on other come.found u.machine n come.order hart (come.along other there) (subst (λ (l : PlannedLeg). IsNext l u.machine hart) same next)
            (subst (λ (l : PlannedLeg). Steps l u.machine hart n) same steps);
      }
  has_come t (TurnsOn {t = u} leg leads at ends) =
      let come = has_come u leads in
      let holds = holds_at (guest_of image) legs plan (standing_at start) u begun leads in
      record {
        found = u.machine;
        led =
            subst (λ (front : List PlannedLeg). LegsLead front start u.machine) (sym (take_more legs u.place leg at))
            (led_more (take u.place legs) leg start come.found u.machine come.led (leads_to u leg leads at ends come));
        order = [];
        along = λ next there.
            comes_begun next u.machine
            (λ hart. next_base (λ h. 0) legs u.place (u.place + 1) leg next plan.on refl at there hart
            ∙ sym (ended_counts (guest_of image) legs plan u leg holds at ends hart));
      }

-- at the ends of the last leg the machine is an outcome of the plan
pub ends_are_outcomes : EndsAreOutcomes
unfolding has_come
ends_are_outcomes image legs leg t on last ends =
    let begun = begun_at_boot image legs (boot_machine image) refl on.plan in
    let whole = has_come image legs on.plan (boot_machine image) begun (turned t) (TurnsOn leg on.leads on.found ends) in
    let all : take (t.place + 1) legs ≡ legs = take_all (t.place + 1) legs last in
    subst (λ (x : MachineState). IsOutcome image legs x) (found_is image legs on.plan t leg on.leads on.found ends begun)
    (subst (λ (front : List PlannedLeg). LegsLead front (boot_machine image) whole.found) all whole.led)
  where
    found_is : (i : ImageContents) (ls : List PlannedLeg) (p : IsPlan (guest_of i) ls) (u : Standing) (l : PlannedLeg)
        (leads : Leads ls (standing_at (boot_machine i)) u) (at : slice_get ls u.place ≡ Some l) (done : AreAtEnds u.machine l.ends)
        (b : IsBegun (guest_of i) ls (standing_at (boot_machine i))) →
        (has_come i ls p (boot_machine i) b (turned u) (TurnsOn l leads at done)).found ≡ u.machine
    found_is i ls p u l leads at done b = refl
