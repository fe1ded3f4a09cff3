-- What a machine has put out to which legs lead from boot.
use Rattle.std.proofs.Common.{◌≡◌, ◌++◌, ℕ, zero, suc, List, [], ◌∷◌, map, slice_get, length, refl, sym, ap, subst, ◌∙◌}
use Rattle.std.specs.List.{range_with_len}
use Rattle.rv32_hart.specs.Hart.{Hart, boot_hart}
use Rattle.guest_image.specs.Image.{ImageContents}
use Rattle.guest_image.specs.Machine.{MachineState, boot_machine}
use Rattle.hart_lease.specs.Runs.{counts_of}
use Rattle.hart_replay.specs.declared.plans.PlannedLeg.{PlannedLeg}
use Rattle.hart_replay.specs.Replays.{LegsLead, IsOutcome, leg_turns}
use Rattle.primary.specs.Outputs.{said_by, said_at}
use Rattle.leading.specs.Leaders.{IsTidy, AreTidy}
use Rattle.leading.proofs.Saying.{run_later, still_tidy}

legs_tidy : (legs : List PlannedLeg) (m n : MachineState) → LegsLead legs m n → AreTidy m → AreTidy n
legs_tidy [] m n same tidy = subst AreTidy (sym same) tidy
legs_tidy (leg ∷ legs) m n (next, (order, schedule, led), rest) tidy =
    legs_tidy legs next n rest (still_tidy m next (run_later (length m.pages) m next (leg_turns leg order) led) tidy)

none_said : (harts : ℕ) (numbers : List ℕ) (hart : ℕ) → said_by (slice_get (map (boot_hart harts) numbers) hart) ≡ []
unfolding boot_hart
none_said harts [] hart = refl
none_said harts (n ∷ numbers) zero = refl
none_said harts (n ∷ numbers) (suc hart) = none_said harts numbers hart

pub outcome_tidy : (image : ImageContents) (legs : List PlannedLeg) (m : MachineState) → IsOutcome image legs m → AreTidy m
outcome_tidy image legs m outcome =
    legs_tidy legs (boot_machine image) m outcome
    (λ hart.
    subst (IsTidy (counts_of (boot_machine image) hart)) (sym (none_said image.harts (range_with_len 0 image.harts) hart)) (record { rising = tt; below = tt }))
