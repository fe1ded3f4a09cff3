-- The counts at each moment of a plan's line are a closed cut.
use Rattle.std.proofs.Common.{◌≡◌, inl, inr, ℕ, ◌+◌, ◌≤◌, List, Some, Contains, slice_get, refl, ap, sym, subst, ◌∙◌, arith}
use Rattle.std.specs.List.{range_with_len}
use Rattle.std.proofs.lemmas.Bool.{cases_lt}
use Rattle.ft_types.specs.Counts.{count_at}
use Rattle.interleaving.specs.Log.{Edge, IsClosed, bump}
use Rattle.interleaving.proofs.Put.{same_or_not, bump_same, bump_other, bump_le}
use Rattle.edge_log.specs.EdgeLog.{IsLog}
use Rattle.edge_log.proofs.Logs.{in_row, of_row}
use Rattle.guest_image.specs.Image.{ImageContents, guest_of}
use Rattle.guest_image.specs.Machine.{MachineState, boot_machine}
use Rattle.hart_lease.specs.Runs.{counts_of}
use Rattle.hart_replay.specs.declared.plans.PlannedLeg.{PlannedLeg}
use Rattle.hart_replay.specs.Plans.{IsPlan, log_of}
use Rattle.hart_replay.proofs.walking.Outcomes.{boot_so_far, booted_none}
use Rattle.plan_lines.specs.Line.{IsNext, Steps, Standing, standing_at, Leads}
use Rattle.plan_lines.specs.Line.{Begins, StepsOn, TurnsOn}
use Rattle.plan_lines.specs.Laws.{CountsAreCuts}
use Rattle.plan_lines.specs.machinery.Kept.{IsBegun}
use Rattle.least_cuts.proofs.Legs.{leg_of_all, next_base, one_leg}
use Rattle.plan_lines.proofs.Standings.{holds_at, counts_step, ended_counts}

-- a line begins at boot
pub begun_at_boot : (image : ImageContents) (legs : List PlannedLeg) (m : MachineState) → m ≡ boot_machine image → IsPlan (guest_of image) legs →
    IsBegun (guest_of image) legs (standing_at m)
begun_at_boot image legs m is plan =
    record {
      plan = plan;
      harts = (boot_so_far image legs m plan is).harts;
      boot = λ hart. ap (λ (n : MachineState). counts_of n hart) is ∙ booted_none image.harts (range_with_len 0 image.harts) hart;
      is = refl;
    }

-- no edge is of a step before the leg's base
edge_from : (leg : PlannedLeg) → leg.edges.start ≡ leg.base → IsLog leg.edges.start leg.edges.rows → (e : Edge) → Contains (log_of leg).edges e →
    count_at leg.base e.hart ≤ e.step
edge_from leg start rules e has =
    let (x, stands, same) = in_row leg.edges.start leg.edges.rows rules e has in
    let of = of_row leg.edges.start leg.edges.rows rules e.hart x stands in
    let from = of.from_start in
    let at : x.at ≡ e.step = ap (λ (y : Edge). y.step) same in
    let base : count_at leg.edges.start e.hart ≡ count_at leg.base e.hart = ap (λ (b : List ℕ). count_at b e.hart) start in
    omega (arith, from, at, base)

module _ (image : ImageContents) (legs : List PlannedLeg) (plan : IsPlan (guest_of image) legs) (s : Standing) (begun : IsBegun (guest_of image) legs s) where
  closed_step : (leg : PlannedLeg) (m n : MachineState) (hart : ℕ) → IsClosed (log_of leg).edges (counts_of m) → IsNext leg m hart → Steps leg m hart n →
      IsClosed (log_of leg).edges (counts_of n)
  closed_step leg m n hart closed next steps e has lt =
      let counts = counts_step leg m n hart steps in
      let of_hart : counts_of n e.hart ≡ bump (counts_of m) hart e.hart = ap (λ (f : ℕ → ℕ). f e.hart) counts in
      let of_other : counts_of n e.other ≡ bump (counts_of m) hart e.other = ap (λ (f : ℕ → ℕ). f e.other) counts in
      let more : counts_of m e.other ≤ bump (counts_of m) hart e.other = bump_le (counts_of m) hart e.other in
      let met : e.count ≤ counts_of m e.other =
      elim (cases_lt e.step (counts_of m e.hart)) [
        | inl before ↦ closed e has before
        | inr from ↦
            elim (same_or_not hart e.hart) [
              | inl same ↦
                  let one : bump (counts_of m) hart hart ≡ counts_of m hart + 1 = bump_same (counts_of m) hart in
                  let to : bump (counts_of m) hart hart ≡ bump (counts_of m) hart e.hart = ap (bump (counts_of m) hart) same in
                  let here : counts_of m hart ≡ counts_of m e.hart = ap (counts_of m) same in
                  next.may.met e has (sym same) (omega (arith, lt, of_hart, one, to, here, from))
              | inr other ↦ let kept = bump_other (counts_of m) hart e.hart other in absurd (omega (arith, lt, of_hart, kept, from))
            ]
      ] in
      omega (arith, met, of_other, more)

  pub closed_at : (t : Standing) (leg : PlannedLeg) → Leads legs s t → slice_get legs t.place ≡ Some leg → IsLog leg.edges.start leg.edges.rows →
      IsClosed (log_of leg).edges (counts_of t.machine)
  closed_at t leg Begins found rules = λ e has lt. let none = begun.boot e.hart in absurd (omega (arith, none, lt))
  closed_at t leg (StepsOn {t = u} at_leg hart n leads at next steps) found rules =
      let same = one_leg legs u.place at_leg leg at found in
      closed_step leg u.machine n hart (closed_at u leg leads found rules) (subst (λ (l : PlannedLeg). IsNext l u.machine hart) same next)
      (subst (λ (l : PlannedLeg). Steps l u.machine hart n) same steps)
  closed_at t leg (TurnsOn {t = u} before leads at ends) found rules = λ e has lt.
      let holds = holds_at (guest_of image) legs plan s u begun leads in
      let count = ended_counts (guest_of image) legs plan u before holds at ends e.hart in
      let base = next_base (λ h. 0) legs u.place (u.place + 1) before leg plan.on refl at found e.hart in
      let from = edge_from leg (leg_of_all image.harts legs (u.place + 1) leg plan.each found).start rules e has in
      absurd (omega (arith, lt, count, base, from))

pub counts_are_cuts : CountsAreCuts
counts_are_cuts image legs leg t on =
    let begun = begun_at_boot image legs (boot_machine image) refl on.plan in
    let holds = holds_at (guest_of image) legs on.plan (standing_at (boot_machine image)) t begun on.leads in
    record {
      from_start = holds.from_base leg on.found;
      to_end = holds.within leg on.found;
      closed = closed_at image legs on.plan (standing_at (boot_machine image)) begun t leg on.leads on.found on.rules;
    }
