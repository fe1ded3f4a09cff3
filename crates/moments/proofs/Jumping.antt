-- A timeline that begins, and one that goes to a snapshot.
use Rattle.std.proofs.Common.{◌≡◌, ◌⊎◌, inl, inr, ℕ, ◌-◌, ◌≤◌, List, [], map, length, Contains, ap, sym, subst, ◌∙◌, arith}
use Rattle.ft_types.specs.Guests.{GuestParts}
use Rattle.guest_image.specs.Image.{ImageContents, guest_of}
use Rattle.guest_image.specs.Machine.{MachineState, boot_machine}
use Rattle.hart_replay.specs.declared.plans.PlannedLeg.{PlannedLeg}
use Rattle.hart_replay.specs.Plans.{IsPlan}
use Rattle.moments.specs.declared.snapshots.Snapshot.{Snapshot}
use Rattle.plan_lines.specs.Line.{LineView, Standing, standing_at, Leads}
use Rattle.plan_lines.specs.Line.{Begins}
use Rattle.moments.specs.machinery.Machines.{standing_of}
use Rattle.plan_lines.specs.machinery.Kept.{IsBegun, Stands, IsTimeline, QuietAt, IsTurned, OnLine}
use Rattle.plan_lines.proofs.Cutting.{begun_at_boot}
use Rattle.moments.proofs.Lines.{line_of, kept_stands, first_stands, on_line}

-- a line's first snapshot is at moment 0
pub first_moment : (guest : GuestParts) (legs : List PlannedLeg) (first : Standing) → IsBegun guest legs first → first.moment ≡ 0
first_moment guest legs first begun = ap (λ (s : Standing). s.moment) begun.is

-- it is in the first leg
pub first_place : (guest : GuestParts) (legs : List PlannedLeg) (first : Standing) → IsBegun guest legs first → first.place ≤ length legs - 1
first_place guest legs first begun = let none : first.place ≡ 0 = ap (λ (s : Standing). s.place) begun.is in omega (arith, none)

-- the line of a plan of the image begins at its boot
pub begun_here : (image : ImageContents) (guest : GuestParts) (legs : List PlannedLeg) (boot m : MachineState) → guest ≡ guest_of image →
    boot ≡ boot_machine image → m ≡ boot → IsPlan guest legs → IsBegun guest legs (standing_at m)
begun_here image guest legs boot m same is was =
    subst (λ (g : GuestParts). IsPlan g legs → IsBegun g legs (standing_at m)) (sym same) (begun_at_boot image legs m (was ∙ is))

-- a timeline that stands at its first snapshot, or behind turns from there
pub timeline_begun : (guest : GuestParts) (legs : List PlannedLeg) (begin first went now : Standing) (stops : List ℕ) → IsBegun guest legs begin →
    first ≡ begin → went ≡ begin → ((s : Standing) → Leads legs s went → Leads legs s now) → now.place ≤ length legs - 1 → IsTurned legs now →
    QuietAt legs now stops → IsTimeline guest legs first now [] stops
timeline_begun guest legs begin first went now stops begun same from on within turned quiet =
    record {
      begun = subst (λ (s : Standing). IsBegun guest legs s) (sym same) begun;
      stands = record { leads = on first (subst (λ (s : Standing). Leads legs first s) (same ∙ sym from) Begins); place = within };
      kept = tt;
      turned = turned;
      quiet = quiet;
    }

module _ (guest : GuestParts) (legs : List PlannedLeg) (begin : Snapshot) (now : Standing) (kept : List Snapshot) (stops : List ℕ)
    (is : IsTimeline guest legs (standing_of begin) now (map standing_of kept) stops) (there copy : Snapshot)
    (same : standing_of copy ≡ standing_of there) where
  there_stands : (there ≡ begin) ⊎ Contains kept there → Stands legs (standing_of begin) (standing_of there)
  there_stands among =
      elim among [
        | inl first ↦
            subst (λ (s : Snapshot). Stands legs (standing_of begin) (standing_of s)) (sym first) (first_stands guest legs (standing_of begin) is.begun)
        | inr has ↦ kept_stands legs (standing_of begin) kept there is.kept has
      ]

  -- a copy of a snapshot is on the line
  pub copy_on : (v : LineView) → line_of guest legs (standing_of begin) now ≡ v → (there ≡ begin) ⊎ Contains kept there → OnLine v (standing_of copy)
  copy_on v view among =
      on_line guest legs (standing_of begin) now (map standing_of kept) stops is v view (standing_of copy)
      (subst (λ (s : Standing). Stands legs (standing_of begin) s) (sym same) (there_stands among))
