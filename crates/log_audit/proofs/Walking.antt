-- From leg to leg of a plan.
use Rattle.std.proofs.Common.{◌≡◌, ℕ, ◌+◌, ◌<◌, List, [], ◌∷◌, ◌++◌, length, take, drop, get_or, refl, sym, ap, subst, ◌∙◌, drop-cons, add-one, suc}
use Rattle.std.proofs.lemmas.List.{take_more, take-append-drop}
use Rattle.guest_image.specs.Image.{ImageContents, guest_of}
use Rattle.guest_image.specs.Machine.{MachineState, boot_machine}
use Rattle.hart_replay.specs.declared.plans.PlannedLeg.{PlannedLeg}
use Rattle.hart_replay.specs.declared.fault.ReplayFault.TheVariants.{Cyclic, HaltedInside, OtherGuest, Memory}
use Rattle.hart_replay.specs.Plans.{IsPlan}
use Rattle.hart_replay.specs.Leading.{IsSoFar}
use Rattle.hart_replay.proofs.walking.Outcomes.{boot_so_far, goes_far}
use Rattle.log_audit.specs.declared.fault.AuditFault.{AuditFault}
use Rattle.log_audit.specs.declared.fault.AuditFault.TheVariants.{Uncovered, Replay}
use Rattle.log_audit.specs.Coverage.{LegAgrees, LegsAgree}
use Rattle.log_audit.specs.Faults.{IsLegFault, IsLegsFault}

-- the first legs lead to this machine alone, and the next one goes on from it
pub record IsAuditedSoFar (image : ImageContents) (legs : List PlannedLeg) (n : ℕ) (m : MachineState) : Type 0 where
  pub walked : IsSoFar image legs n m
  pub agree : LegsAgree (take n legs) (boot_machine image) m

pub booted_so_far : (image : ImageContents) (legs : List PlannedLeg) (m : MachineState) → IsPlan (guest_of image) legs → m ≡ boot_machine image →
    IsAuditedSoFar image legs 0 m
booted_so_far image legs m plan is = record { walked = boot_so_far image legs m plan is; agree = is }

agree_more : (front : List PlannedLeg) (leg : PlannedLeg) (m n k : MachineState) → LegsAgree front m n → LegAgrees leg n k →
    LegsAgree (front ++ leg ∷ []) m k
agree_more [] leg m n k same agrees = (k, subst (λ (x : MachineState). LegAgrees leg x k) same agrees, refl)
agree_more (first ∷ front) leg m n k (next, one, rest) agrees = (next, one, agree_more front leg next n k rest agrees)

module _ (image : ImageContents) (legs : List PlannedLeg) (plan : IsPlan (guest_of image) legs) (n : ℕ) (m : MachineState)
    (so_far : IsAuditedSoFar image legs n m) (leg : PlannedLeg) (within : n < length legs) (is : leg ≡ get_or legs n leg) where
  rest_is : drop n legs ≡ leg ∷ drop (n + 1) legs
  rest_is = drop-cons legs n leg within ∙ ap (λ (x : PlannedLeg). x ∷ drop (suc n) legs) (sym is) ∙ ap (λ (k : ℕ). leg ∷ drop k legs) (sym (add-one n))

  front_is : take (n + 1) legs ≡ take n legs ++ leg ∷ []
  front_is = take_more legs n leg within ∙ ap (λ (x : PlannedLeg). take n legs ++ x ∷ []) (sym is)

  pub walks_on : (k : MachineState) → LegAgrees leg m k → IsAuditedSoFar image legs (n + 1) k
  walks_on k agrees =
      record {
        walked = goes_far image legs plan n m so_far.walked leg within is k agrees.leads;
        agree =
            subst (λ (front : List PlannedLeg). LegsAgree front (boot_machine image) k) (sym front_is)
            (agree_more (take n legs) leg (boot_machine image) m k so_far.agree agrees);
      }

  parts_are : legs ≡ take n legs ++ leg ∷ drop (n + 1) legs
  parts_are = sym (take-append-drop n legs) ∙ ap (λ (rest : List PlannedLeg). take n legs ++ rest) rest_is

  pub faulty_leg : (f : AuditFault) → IsLegFault leg m f → IsLegsFault image legs f
  faulty_leg (Uncovered page one other) h =
      record { front = take n legs; leg = leg; back = drop (n + 1) legs; parts = parts_are; found = m; led = so_far.walked.led; fault = h }
  faulty_leg (Replay (Cyclic counts)) h =
      record { front = take n legs; leg = leg; back = drop (n + 1) legs; parts = parts_are; found = m; led = so_far.walked.led; fault = h }
  faulty_leg (Replay (HaltedInside hart count)) h =
      record { front = take n legs; leg = leg; back = drop (n + 1) legs; parts = parts_are; found = m; led = so_far.walked.led; fault = h }
  faulty_leg (Replay OtherGuest) h = absurd h
  faulty_leg (Replay Memory) h = tt
