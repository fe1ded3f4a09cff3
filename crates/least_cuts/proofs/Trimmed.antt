-- The legs of a plan before one of them, and that leg up to a closed cut.
use Rattle.std.proofs.Common.{◌≡◌, ◌≢◌, ℕ, zero, suc, ◌+◌, ◌<◌, ◌≤◌, ◌++◌, List, [], ◌∷◌, length, take, drop, All, slice_get, Some, refl, sym, subst, arith}
use Rattle.std.proofs.lemmas.List.{take-append-drop, length-take-le}
use Rattle.std.proofs.lemmas.List.Elements.{All-take}
use Rattle.ft_types.specs.Counts.{count_at}
use Rattle.ft_types.specs.Guests.{GuestParts}
use Rattle.interleaving.specs.Log.{IsCut}
use Rattle.guest_image.specs.Image.{ImageContents, guest_of}
use Rattle.guest_image.specs.Machine.{MachineState, boot_machine}
use Rattle.hart_lease.specs.Runs.{counts_of}
use Rattle.hart_replay.specs.declared.plans.PlannedLeg.{PlannedLeg}
use Rattle.hart_replay.specs.declared.fault.ReplayFault.{ReplayFault}
use Rattle.hart_replay.specs.declared.fault.ReplayFault.TheVariants.{OtherGuest}
use Rattle.hart_replay.specs.Plans.{IsLeg, IsPlan, GoOn, log_of}
use Rattle.hart_replay.specs.Replays.{LegLeads, IsOutcome}
use Rattle.hart_replay.specs.Leading.{IsLegFault, IsLegsFault, IsSoFar}
use Rattle.hart_replay.specs.machinery.Going.{HasCome}
use Rattle.hart_replay.proofs.Along.{along}
use Rattle.hart_replay.proofs.Fronts.{there}
use Rattle.hart_replay.proofs.walking.Outcomes.{boot_so_far, leg_is, leg_base}
use Rattle.least_cuts.specs.Cuts.{IsAtCount, IsLeastCut, leg_to}
use Rattle.least_cuts.proofs.Legs.{led_more}
use Rattle.least_cuts.proofs.Legs.{about}

-- a leg's harts have come to the machine with which it begins
pub come_here : (leg : PlannedLeg) (m : MachineState) → IsLeg (length m.harts) leg → ((hart : ℕ) → count_at leg.base hart ≡ counts_of m hart) →
    HasCome leg m m
come_here leg m is base = record { is_leg = is; base = base; order = []; begins = tt; run = refl }

-- the first legs of a plan are one
go_on_front : (now : ℕ → ℕ) (legs : List PlannedLeg) (n : ℕ) → GoOn now legs → GoOn now (take n legs)
go_on_front now [] zero on = tt
go_on_front now [] (suc n) on = tt
go_on_front now (leg ∷ legs) zero on = tt
go_on_front now (leg ∷ legs) (suc n) on = (on.0, go_on_front (count_at leg.ends) legs n on.1)

pub front_plan : (guest : GuestParts) (legs : List PlannedLeg) (n : ℕ) → IsPlan guest legs → IsPlan guest (take n legs)
front_plan guest legs n plan = record { each = All-take (IsLeg guest.harts) n legs plan.each; on = go_on_front (λ hart. 0) legs n plan.on }

-- a leg up to a closed cut is one
trimmed_leg : (many : ℕ) (leg : PlannedLeg) (counts : List ℕ) → IsLeg many leg → IsCut (log_of leg) (count_at counts) → IsLeg many (leg_to leg counts)
trimmed_leg many leg counts is cut =
    record {
      harts = is.harts;
      marks = is.marks;
      no_others = λ hart over.
          let none = is.no_others hart over in
          let le : count_at counts hart ≤ count_at leg.ends hart = cut.to_end hart in
          omega (arith, none, le);
      start = is.start;
      cut = record { from_start = cut.from_start; to_end = λ hart. omega arith; closed = cut.closed };
    }

-- faults of legs are not another guest
pub no_guest_fault : (image : ImageContents) (legs : List PlannedLeg) (f : ReplayFault) → IsLegsFault image legs f → f ≢ OtherGuest
no_guest_fault image legs f fault is = subst (λ (g : ReplayFault). IsLegsFault image legs g) is fault

pub no_leg_fault : (leg : PlannedLeg) (m : MachineState) (f : ReplayFault) → IsLegFault leg m f → f ≢ OtherGuest
no_leg_fault leg m f fault is = subst (λ (g : ReplayFault). IsLegFault leg m g) is fault

module _ (image : ImageContents) (legs : List PlannedLeg) (plan : IsPlan (guest_of image) legs) (n : ℕ) (m : MachineState)
    (led : IsOutcome image (take n legs) m) (leg : PlannedLeg) (at : slice_get legs n ≡ Some leg) where
  within : n < length legs
  within = (there legs n leg at).0

  so_far : IsSoFar image legs n m
  so_far =
      subst (λ (k : ℕ). IsSoFar image legs k m) (length-take-le n legs (let lt = within in omega (arith, lt)))
      (along image legs plan (take n legs) [] (drop n legs) (sym (take-append-drop n legs)) (boot_machine image) m
      (boot_so_far image legs (boot_machine image) plan refl) led)

  -- the leg up to the cut begins with the machine to which the legs before it led
  pub is_trimmed : (counts : List ℕ) → IsCut (log_of leg) (count_at counts) → IsLeg (length m.harts) (leg_to leg counts)
  is_trimmed counts cut = trimmed_leg (length m.harts) leg counts (leg_is image legs plan n m so_far leg within (there legs n leg at).1) cut

  pub based : (hart : ℕ) → count_at leg.base hart ≡ counts_of m hart
  based = leg_base image legs plan n m so_far leg within (there legs n leg at).1

  -- and leads on from it
  pub led_to : (counts : List ℕ) (k : MachineState) → LegLeads (leg_to leg counts) m k → IsOutcome image (take n legs ++ leg_to leg counts ∷ []) k
  led_to counts k leads = led_more (take n legs) (leg_to leg counts) (boot_machine image) m k led leads

-- the machine at the least cut of the first leg that has so many steps of the hart
pub least_machine : (image : ImageContents) (legs : List PlannedLeg) (n : ℕ) (leg : PlannedLeg) → slice_get legs n ≡ Some leg → (hart count : ℕ)
    (counts : List ℕ) → All (λ before. count_at before.ends hart < count) (take n legs) → IsLeastCut leg hart count counts → (k : MachineState) →
    IsOutcome image (take n legs ++ leg_to leg counts ∷ []) k → IsAtCount image legs hart count k
least_machine image legs n leg at hart count counts first least k outcome =
    record {
      front = take n legs;
      leg = leg;
      back = drop (suc n) legs;
      parts = about legs n leg at;
      first = first;
      counts = counts;
      least = least;
      led = outcome;
    }
