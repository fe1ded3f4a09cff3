-- From leg to leg.
use Rattle.std.proofs.Common.{◌≡◌, ℕ, zero, suc, add-one, ◌+◌, ◌<◌, List, [], ◌∷◌, ◌++◌, length, map, take, drop, get_or, slice_get, refl, sym, ap, subst, ◌∙◌}
use Rattle.std.proofs.Common.{drop-cons}
use Rattle.std.proofs.Math.Path.{fun_ext}
use Rattle.std.proofs.lemmas.List.{take_more, take-append-drop}
use Rattle.std.specs.List.{range_with_len}
use Rattle.ft_types.specs.Counts.{count_at}
use Rattle.interleaving.specs.Log.{counts_after, turns_of}
use Rattle.rv32_hart.specs.Hart.{boot_hart}
use Rattle.guest_image.specs.Image.{ImageContents, guest_of}
use Rattle.guest_image.specs.Machine.{MachineState, boot_machine}
use Rattle.hart_lease.specs.Runs.{run_of, counts_of, steps_taken}
use Rattle.hart_replay.specs.declared.plans.PlannedLeg.{PlannedLeg}
use Rattle.hart_replay.specs.declared.fault.ReplayFault.{ReplayFault}
use Rattle.hart_replay.specs.declared.fault.ReplayFault.TheVariants.{Cyclic, HaltedInside, OtherGuest, Memory}
use Rattle.hart_replay.specs.Plans.{IsLeg, IsPlan, GoOn, log_of}
use Rattle.hart_replay.specs.Replays.{leg_turns, LegLeads, LegsLead, IsOutcome}
use Rattle.hart_replay.specs.Leading.{IsLegFault, IsLegsFault, IsSoFar}
use Rattle.hart_lease.proofs.journals.Sizes.{IsAsLarge, as_large, counts_ran}

-- ---- boot

boot_none : (harts number : ℕ) → (boot_hart harts number).count ≡ 0
unfolding boot_hart
boot_none harts number = refl

pub booted_none : (harts : ℕ) (numbers : List ℕ) (hart : ℕ) → steps_taken (slice_get (map (boot_hart harts) numbers) hart) ≡ 0
booted_none harts [] hart = refl
booted_none harts (number ∷ numbers) zero = boot_none harts number
booted_none harts (number ∷ numbers) (suc hart) = booted_none harts numbers hart

pub booted_length : (harts place n : ℕ) → length (map (boot_hart harts) (range_with_len place n)) ≡ n
booted_length harts place zero = refl
booted_length harts place (suc n) = ap suc (booted_length harts (place + 1) n)

pub boot_so_far : (image : ImageContents) (legs : List PlannedLeg) (m : MachineState) → IsPlan (guest_of image) legs → m ≡ boot_machine image →
    IsSoFar image legs 0 m
boot_so_far image legs m plan is =
    subst (λ (x : MachineState). IsSoFar image legs 0 x) (sym is)
    (record {
      led = refl;
      harts = booted_length image.harts 0 image.harts;
      on = subst (λ (now : ℕ → ℕ). GoOn now legs) (sym (fun_ext (booted_none image.harts (range_with_len 0 image.harts)))) plan.on;
    })

-- ---- one leg more

legs_more : (front : List PlannedLeg) (leg : PlannedLeg) (m n k : MachineState) → LegsLead front m n → LegLeads leg n k → LegsLead (front ++ leg ∷ []) m k
legs_more [] leg m n k same leads = (k, subst (λ (x : MachineState). LegLeads leg x k) same leads, refl)
legs_more (first ∷ front) leg m n k (next, one, rest) leads = (next, one, legs_more front leg next n k rest leads)

-- what a leg leaves
pub left_counts : (leg : PlannedLeg) (m n : MachineState) → count_at leg.base ≡ counts_of m → LegLeads leg m n → counts_of n ≡ count_at leg.ends
left_counts leg m n base (order, schedule, run) =
    counts_ran m n (log_of leg).inputs order (ap (λ (now : ℕ → ℕ). run_of m (turns_of (log_of leg).inputs now order)) (sym base) ∙ run)
    ∙ ap (λ (now : ℕ → ℕ). counts_after now order) (sym base)
    ∙ fun_ext schedule.complete

pub left_as_large : (leg : PlannedLeg) (m n : MachineState) → LegLeads leg m n → IsAsLarge m n
left_as_large leg m n (order, schedule, run) = as_large m n (leg_turns leg order) run

module _ (image : ImageContents) (legs : List PlannedLeg) (plan : IsPlan (guest_of image) legs) (n : ℕ) (m : MachineState) (so_far : IsSoFar image legs n m)
    (leg : PlannedLeg) (within : n < length legs) (is : leg ≡ get_or legs n leg) where
  rest_is : drop n legs ≡ leg ∷ drop (n + 1) legs
  rest_is = drop-cons legs n leg within ∙ ap (λ (x : PlannedLeg). x ∷ drop (suc n) legs) (sym is) ∙ ap (λ (k : ℕ). leg ∷ drop k legs) (sym (add-one n))

  goes_on : GoOn (counts_of m) (leg ∷ drop (n + 1) legs)
  goes_on = subst (λ (rest : List PlannedLeg). GoOn (counts_of m) rest) rest_is so_far.on

  pub leg_base : (hart : ℕ) → count_at leg.base hart ≡ counts_of m hart
  leg_base = goes_on.0

  pub leg_is : IsLeg (length m.harts) leg
  leg_is =
      subst (λ (harts : ℕ). IsLeg harts leg) (sym so_far.harts)
      (subst (λ (x : PlannedLeg). IsLeg image.harts x) (sym is) (plan.each n leg within))

  front_is : take (n + 1) legs ≡ take n legs ++ leg ∷ []
  front_is = take_more legs n leg within ∙ ap (λ (x : PlannedLeg). take n legs ++ x ∷ []) (sym is)

  pub goes_far : (k : MachineState) → LegLeads leg m k → IsSoFar image legs (n + 1) k
  goes_far k leads =
      record {
        led =
            subst (λ (front : List PlannedLeg). IsOutcome image front k) (sym front_is)
            (legs_more (take n legs) leg (boot_machine image) m k so_far.led leads);
        harts = (left_as_large leg m k leads).harts ∙ so_far.harts;
        on =
            subst (λ (now : ℕ → ℕ). GoOn now (drop (n + 1) legs)) (sym (left_counts leg m k (fun_ext leg_base) leads)) goes_on.1;
      }

  parts_are : legs ≡ take n legs ++ leg ∷ drop (n + 1) legs
  parts_are = sym (take-append-drop n legs) ∙ ap (λ (rest : List PlannedLeg). take n legs ++ rest) rest_is

  pub leg_at_fault : (f : ReplayFault) → IsLegFault leg m f → IsLegsFault image legs f
  leg_at_fault (Cyclic counts) h =
      record { front = take n legs; leg = leg; back = drop (n + 1) legs; parts = parts_are; found = m; led = so_far.led; fault = h }
  leg_at_fault (HaltedInside hart count) h =
      record { front = take n legs; leg = leg; back = drop (n + 1) legs; parts = parts_are; found = m; led = so_far.led; fault = h }
  leg_at_fault OtherGuest h = absurd h
  leg_at_fault Memory h = tt
