-- The next step of a covered run.
use Rattle.std.proofs.Common.{◌≡◌, ℕ, ◌<◌, ◌≤◌, List, [], ◌∷◌, ◌++◌, Option, Some, None, length, slice_get}
use Rattle.std.proofs.Common.{false, refl, sym, ap, ◌∙◌, arith}
use Rattle.ft_types.specs.Counts.{count_at}
use Rattle.interleaving.specs.Machine.{Turn, Write, Effect, Writes, steps}
use Rattle.interleaving.specs.Log.{Begins, IsMet, counts_after}
use Rattle.interleaving.specs.Stored.{lift, effect_of, stored_after, goes, run_from, system_of, view}
use Rattle.interleaving.proofs.Runs.{steps_append}
use Rattle.input_log.specs.declared.Input.{Input}
use Rattle.rv32_hart.specs.Hart.{Hart}
use Rattle.rv32_hart.specs.Step.{effect}
use Rattle.rv32_hart.specs.Hardware.{hardware}
use Rattle.guest_image.specs.Machine.{MachineState}
use Rattle.hart_lease.specs.Runs.{run_of, counts_of, steps_taken}
use Rattle.hart_lease.proofs.journals.Runs.{run_from-append}
use Rattle.hart_lease.proofs.journals.Sizes.{is_run}
use Rattle.hart_replay.specs.declared.plans.PlannedLeg.{PlannedLeg}
use Rattle.hart_replay.specs.Plans.{log_of}
use Rattle.hart_replay.specs.Replays.{leg_turns}
use Rattle.log_audit.specs.Coverage.{TakenStep, steps_in}
use Rattle.log_audit.specs.machinery.Covered.{HartsView, machine_of, IsCovered, effect_in}
use Rattle.log_audit.proofs.Appending.{begins_more, turns_more}

-- ---- the writes of a step, lifted or not

pub lifted_from : (size : ℕ) (e : Effect Hart (List ℕ)) (page : ℕ) → Writes (lift (hardware size) e) page → Writes e page
lifted_from size e page = of e.hart e.touched e.write
  where
    of : (h : Hart) (touched : List ℕ) (w : Option (Write (List ℕ))) →
        Writes (lift (hardware size) (record { hart = h; touched = touched; write = w })) page →
        Writes (let x : Effect Hart (List ℕ) = record { hart = h; touched = touched; write = w } in x) page
    of h touched None k = k
    of h touched (Some w) k = k

pub lifted_to : (size : ℕ) (e : Effect Hart (List ℕ)) (page : ℕ) → Writes e page → Writes (lift (hardware size) e) page
lifted_to size e page = of e.hart e.touched e.write
  where
    of : (h : Hart) (touched : List ℕ) (w : Option (Write (List ℕ))) →
        Writes (let x : Effect Hart (List ℕ) = record { hart = h; touched = touched; write = w } in x) page →
        Writes (lift (hardware size) (record { hart = h; touched = touched; write = w })) page
    of h touched None k = k
    of h touched (Some w) k = k

-- ---- the step

-- what the hart does next, as a step of the run
abbrev pub step_next : HartsView → ℕ → Hart → List Input → TakenStep
step_next b hart h inputs =
    record { hart = hart; found = Some h; input = inputs; effect = lift (hardware (length b.start.pages)) (effect_in b h inputs) }

module _ (leg : PlannedLeg) (order : List ℕ) (reach : ℕ → ℕ) (b : HartsView) (covered : IsCovered leg order reach b) (hart : ℕ) (h : Hart)
    (inputs : List Input) (found : slice_get b.harts hart ≡ Some h) (running : h.halted ≡ false) (given : inputs ≡ (log_of leg).inputs hart h.count) where
  abbrev turn : Turn (List Input)
  turn = record { hart = hart; input = inputs }

  count_now : counts_after (log_of leg).start order hart ≡ h.count
  count_now = covered.counts hart ∙ ap steps_taken found

  turns_are : leg_turns leg (order ++ hart ∷ []) ≡ leg_turns leg order ++ record { hart = hart; input = inputs } ∷ []
  turns_are =
      turns_more (log_of leg).inputs (log_of leg).start order hart
      ∙ ap (λ (input : List Input). leg_turns leg order ++ record { hart = hart; input = input } ∷ [])
      (ap ((log_of leg).inputs hart) count_now ∙ sym given)

  pub run_more : run_of b.start (leg_turns leg (order ++ hart ∷ [])) ≡ Some (stored_after (machine_of b) hart (effect_in b h inputs))
  run_more =
      ap (λ (turns : List (Turn (List Input))). run_of b.start turns) turns_are
      ∙ run_from-append (hardware (length b.start.pages)) (Some b.start) (leg_turns leg order) (turn ∷ [])
      ∙ ap (λ (o : Option MachineState). run_from (hardware (length b.start.pages)) o (turn ∷ [])) covered.run
      ∙ ap (λ (o : Option Hart). run_from (hardware (length b.start.pages)) (goes (hardware (length b.start.pages)) (machine_of b) turn o) []) found
      ∙ gone
      ∙ ap (λ (n : ℕ). Some (stored_after (machine_of b) hart (effect n h inputs (slice_get b.pages.contents)))) (sym covered.pages)
    where
      gone : run_from (hardware (length b.start.pages)) (goes (hardware (length b.start.pages)) (machine_of b) turn (Some h)) [] ≡
          Some (stored_after (machine_of b) hart (effect (length b.start.pages) h inputs (slice_get b.pages.contents)))
      gone = rw running refl

  pub steps_more : steps_in leg b.start (order ++ hart ∷ []) ≡ steps_in leg b.start order ++ step_next b hart h inputs ∷ []
  steps_more =
      ap (steps (system_of (hardware (length b.start.pages))) (view (hardware (length b.start.pages)) b.start)) turns_are
      ∙ steps_append (system_of (hardware (length b.start.pages))) (view (hardware (length b.start.pages)) b.start) (leg_turns leg order) (turn ∷ [])
      ∙ ap (λ m. steps_in leg b.start order ++ steps (system_of (hardware (length b.start.pages))) m (turn ∷ []))
      (sym (is_run (length b.start.pages) b.start (machine_of b) (leg_turns leg order) refl covered.run).is)
      ∙ ap (λ (o : Option Hart). steps_in leg b.start order ++ shape o ∷ []) found
      ∙ ap (λ (n : ℕ). steps_in leg b.start order ++ sized n ∷ []) (sym covered.pages)
    where
      shape : Option Hart → TakenStep
      shape o =
          record {
            hart = hart;
            found = o;
            input = inputs;
            effect = effect_of (hardware (length b.start.pages)) o inputs (slice_get b.pages.contents);
          }

      sized : ℕ → TakenStep
      sized n =
          record {
            hart = hart;
            found = Some h;
            input = inputs;
            effect = lift (hardware (length b.start.pages)) (effect n h inputs (slice_get b.pages.contents));
          }

  pub begins_next : h.count < count_at leg.ends hart → IsMet (log_of leg).edges (counts_of (machine_of b)) hart →
      Begins (log_of leg).edges (count_at leg.ends) (log_of leg).start (order ++ hart ∷ [])
  begins_next below met =
      begins_more (log_of leg).edges (count_at leg.ends) (log_of leg).start order hart covered.begins (
        omega (arith, count_now, below),
        λ e has own at.
            let same : counts_after (log_of leg).start order hart ≡ counts_of (machine_of b) hart = covered.counts hart in
            let most : e.count ≤ counts_of (machine_of b) e.other = met e has own (at ∙ same) in
            let other : counts_after (log_of leg).start order e.other ≡ counts_of (machine_of b) e.other = covered.counts e.other in
            omega (arith, most, other),
      )
