-- What is known of the steps of a covered run.
use Rattle.std.proofs.Common.{◌≡◌, inl, inr, ℕ, ◌+◌, ◌<◌, ◌≤◌, List, Some, Contains, length, slice_get, refl, sym, ap, subst, ◌∙◌, arith}
use Rattle.std.proofs.Math.Path.{fun_ext}
use Rattle.ft_types.specs.Counts.{count_at}
use Rattle.interleaving.specs.Lists.{Each}
use Rattle.interleaving.specs.Machine.{Writes, counts, run}
use Rattle.interleaving.specs.Stored.{system_of, view}
use Rattle.interleaving.proofs.Each.{each_at}
use Rattle.rv32_hart.specs.Hart.{Hart}
use Rattle.rv32_hart.specs.Hardware.{hardware}
use Rattle.hart_lease.specs.Runs.{counts_of, steps_taken}
use Rattle.hart_lease.proofs.journals.Counts.{counts_is}
use Rattle.hart_lease.proofs.journals.Sizes.{IsRun, is_run}
use Rattle.hart_replay.specs.declared.plans.PlannedLeg.{PlannedLeg}
use Rattle.hart_replay.specs.Plans.{IsLeg, log_of}
use Rattle.hart_replay.specs.Replays.{leg_turns}
use Rattle.log_audit.specs.machinery.Marks.{read_mark, written_mark, IsMarkedBelow}
use Rattle.log_audit.specs.Coverage.{TakenStep, steps_in, place_in}
use Rattle.log_audit.specs.machinery.Covered.{HartsView, machine_of, IsCovered, IsMarkOf}
use Rattle.log_audit.proofs.Appending.{steps_below, steps_touch, steps_of_crew}

module _ (leg : PlannedLeg) (order : List ℕ) (reach : ℕ → ℕ) (v : HartsView) (covered : IsCovered leg order reach v) where
  pub ran : IsRun (length v.start.pages) v.start (machine_of v) (leg_turns leg order)
  ran = is_run (length v.start.pages) v.start (machine_of v) (leg_turns leg order) refl covered.run

  pub counts_are : counts (system_of (hardware (length v.start.pages)))
      (run (system_of (hardware (length v.start.pages))) (view (hardware (length v.start.pages)) v.start) (leg_turns leg order)) ≡
      counts_of (machine_of v)
  counts_are =
      ap (counts (system_of (hardware (length v.start.pages)))) (sym ran.is) ∙ fun_ext (counts_is (length v.start.pages) (machine_of v))

  -- the steps that were taken stand below the counts
  pub taken_below : Each (λ (s : TakenStep). (place_in v.start s).step < counts_of (machine_of v) s.hart) (steps_in leg v.start order)
  taken_below =
      subst (λ (now : ℕ → ℕ). Each (λ (s : TakenStep). (place_in v.start s).step < now s.hart) (steps_in leg v.start order)) counts_are
      (steps_below (system_of (hardware (length v.start.pages))) (view (hardware (length v.start.pages)) v.start) (leg_turns leg order) ran.runs)

  -- they touch what they write
  pub taken_touch : Each (λ (s : TakenStep). (page : ℕ) → Writes s.effect page → Contains s.effect.touched page) (steps_in leg v.start order)
  taken_touch =
      steps_touch (system_of (hardware (length v.start.pages))) (view (hardware (length v.start.pages)) v.start) (leg_turns leg order) ran.runs

  -- they are of the leg's harts
  pub taken_of_crew : (many : ℕ) → IsLeg many leg → Each (λ (s : TakenStep). s.hart < many) (steps_in leg v.start order)
  taken_of_crew many is_leg =
      steps_of_crew (system_of (hardware (length v.start.pages))) (log_of leg).edges (count_at leg.ends) (log_of leg).inputs many is_leg.no_others order
      (log_of leg).start (view (hardware (length v.start.pages)) v.start) covered.begins

  pub mark_below : (wanted : TakenStep → Type 0) (hart mark : ℕ) → IsMarkOf v.start (steps_in leg v.start order) wanted hart mark →
      mark ≤ counts_of (machine_of v) hart
  mark_below wanted hart mark (s, taken, own, is, rest) =
      let less : (place_in v.start s).step < counts_of (machine_of v) s.hart =
      each_at (λ (s : TakenStep). (place_in v.start s).step < counts_of (machine_of v) s.hart) (steps_in leg v.start order) s taken_below taken in
      let here : counts_of (machine_of v) s.hart ≡ counts_of (machine_of v) hart = ap (counts_of (machine_of v)) own in
      omega (arith, less, here, is)

  -- a hart's marks are those of steps that it took
  pub marks_below : (hart : ℕ) (h : Hart) → slice_get v.harts hart ≡ Some h → IsMarkedBelow v.pages hart (h.count + 1)
  marks_below hart h found page =
      let now : counts_of (machine_of v) hart ≡ h.count = ap steps_taken found in (
        elim (covered.read_marks page hart) [
          | inl none ↦ omega (arith, none)
          | inr mark ↦
              let le : read_mark v.pages page hart ≤ counts_of (machine_of v) hart =
              mark_below (λ (s : TakenStep). Contains s.effect.touched page) hart (read_mark v.pages page hart) mark in
              omega (arith, le, now)
        ],
        elim (covered.written_marks page hart) [
          | inl none ↦ omega (arith, none)
          | inr mark ↦
              let le : written_mark v.pages page hart ≤ counts_of (machine_of v) hart =
              mark_below (λ (s : TakenStep). Writes s.effect page) hart (written_mark v.pages page hart) mark in
              omega (arith, le, now)
        ],
      )
