-- Along the legs of a plan.
use Rattle.std.proofs.Common.{◌≡◌, ◌<◌, ◌≤◌, ◌+◌, ◌-◌, ◌++◌, ℕ, zero, suc, List, [], ◌∷◌, length, map, take, drop, get_or, slice_get, Option, Some, None, refl}
use Rattle.std.proofs.Common.{sym, ap, subst, ◌∙◌, arith, add-one, append-nil, append_assoc, length-append, drop-cons}
use Rattle.std.proofs.Math.Seq.{get_or-append_seam}
use Rattle.std.proofs.lemmas.List.{take_all, take_more, take-append-drop}
use Rattle.std.proofs.lemmas.List.Elements.{All-contains}
use Rattle.ft_types.specs.Guests.{GuestParts}
use Rattle.edge_log.specs.EdgeLog.{IsLog}
use Rattle.guest_image.specs.Image.{ImageContents, guest_of}
use Rattle.guest_image.specs.Machine.{MachineState, boot_machine}
use Rattle.hart_lease.specs.Runs.{counts_of}
use Rattle.hart_replay.specs.declared.plans.PlannedLeg.{PlannedLeg}
use Rattle.hart_replay.specs.declared.fault.ReplayFault.{ReplayFault}
use Rattle.hart_replay.specs.Plans.{IsPlan}
use Rattle.hart_replay.specs.Replays.{LegLeads, LegsLead, IsOutcome}
use Rattle.hart_replay.specs.Leading.{IsLegFault, IsLegsFault, IsSoFar}
use Rattle.hart_replay.proofs.walking.Outcomes.{boot_so_far, goes_far, leg_is, leg_base, leg_at_fault}
use Rattle.hart_replay.specs.machinery.Going.{HasCome, HasComeIn, IsAt, LeadsOn, FailsOn}
use Rattle.hart_replay.specs.GoingOn.{AreAlike, GoOnFrom, but_notes}
use Rattle.hart_replay.proofs.Fronts.{at_place, there, past_all, at_seam, seam_within, many_alike, next_is}
use Rattle.hart_replay.specs.KeepingUp.{KeepsUp}
use Rattle.hart_replay.proofs.GoingOn.{begun}

-- ---- from leg to leg

module _ (image : ImageContents) (legs : List PlannedLeg) (plan : IsPlan (guest_of image) legs) where
  -- where the next leg begins
  at_base : (n : ℕ) (m : MachineState) → IsSoFar image legs n m → (o : Option PlannedLeg) → slice_get legs n ≡ o → HasComeIn o m m
  at_base n m so_far None is = refl
  at_base n m so_far (Some leg) is =
      let (within, same) = there legs n leg is in
      record {
        is_leg = leg_is image legs plan n m so_far leg within same;
        base = leg_base image legs plan n m so_far leg within same;
        order = [];
        begins = tt;
        run = refl;
      }

  pub begins_at : (n : ℕ) (m : MachineState) → IsSoFar image legs n m → IsAt image legs n m
  begins_at n m so_far = record { found = m; so_far = so_far; come = at_base n m so_far (slice_get legs n) refl }

  pub boots_at : (m : MachineState) → m ≡ boot_machine image → IsAt image legs 0 m
  boots_at m is = begins_at 0 m (boot_so_far image legs m plan is)

  module _ (n : ℕ) (now : MachineState) (at : IsAt image legs n now) (leg : PlannedLeg) (within : n < length legs) (is : leg ≡ get_or legs n leg) where
    come : HasCome leg at.found now
    come = subst (λ (o : Option PlannedLeg). HasComeIn o at.found now) (at_place legs n leg within is) at.come

    pub goes_to_next : (k : MachineState) → LeadsOn leg now k → IsAt image legs (n + 1) k
    goes_to_next k on = begins_at (n + 1) k (goes_far image legs plan n at.found at.so_far leg within is k (on at.found come))

    pub fails_there : (f : ReplayFault) → FailsOn leg now f → IsLegsFault image legs f
    fails_there f fails = leg_at_fault image legs plan n at.found at.so_far leg within is f (fails at.found come)

  -- behind the last leg
  pub all_led : (n : ℕ) (now : MachineState) → length legs ≤ n → IsAt image legs n now → IsOutcome image legs now
  all_led n now le at =
      let same : now ≡ at.found = subst (λ (o : Option PlannedLeg). HasComeIn o at.found now) (past_all legs n le) at.come in
      subst (λ (x : MachineState). IsOutcome image legs x) (sym same)
      (subst (λ (front : List PlannedLeg). IsOutcome image front at.found) (take_all n legs le) at.so_far.led)

  -- the legs in front of these led to the machine, and so do these to another
  pub along : (front pre back : List PlannedLeg) → legs ≡ pre ++ (front ++ back) → (m k : MachineState) → IsSoFar image legs (length pre) m →
      LegsLead front m k → IsSoFar image legs (length (pre ++ front)) k
  along [] pre back is m k so_far same =
      subst (λ (x : MachineState). IsSoFar image legs (length (pre ++ [])) x) (sym same)
      (subst (λ (xs : List PlannedLeg). IsSoFar image legs (length xs) m) (sym (append-nil pre)) so_far)
  along (leg ∷ front) pre back is m k so_far (next, leads, rest) =
      let within : length pre < length legs = subst (λ (xs : List PlannedLeg). length pre < length xs) (sym is) (seam_within pre leg (front ++ back)) in
      let here : leg ≡ get_or legs (length pre) leg =
      sym (ap (λ (xs : List PlannedLeg). get_or xs (length pre) leg) is ∙ get_or-append_seam pre leg (front ++ back) leg) in
      let one = goes_far image legs plan (length pre) m so_far leg within here next leads in
      let many : length pre + 1 ≡ length (pre ++ leg ∷ []) = sym (length-append pre (leg ∷ [])) in
      subst (λ (xs : List PlannedLeg). IsSoFar image legs (length xs) k) (append_assoc pre (leg ∷ []) front)
      (along front (pre ++ leg ∷ []) back (is ∙ sym (append_assoc pre (leg ∷ []) (front ++ back))) next k
      (subst (λ (n : ℕ). IsSoFar image legs n next) many one) rest)

-- the last leg, behind the others
pub split_last : (front : List PlannedLeg) (leg : PlannedLeg) (m n : MachineState) → LegsLead (front ++ leg ∷ []) m n →
    (mid : MachineState) × LegsLead front m mid × LegLeads leg mid n
split_last [] leg m n (next, leads, same) = (m, refl, subst (λ (x : MachineState). LegLeads leg m x) (sym same) leads)
split_last (first ∷ front) leg m n (next, one, rest) =
    let (mid, led, leads) = split_last front leg next n rest in (mid, (next, one, led), leads)

-- what legs note leads nowhere
noting_leads : (legs : List PlannedLeg) (m n : MachineState) → LegsLead legs m n → LegsLead (map but_notes legs) m n
noting_leads [] m n led = led
noting_leads (leg ∷ legs) m n (next, leads, rest) = (next, leads, noting_leads legs next n rest)

without_notes : (legs : List PlannedLeg) (m n : MachineState) → LegsLead (map but_notes legs) m n → LegsLead legs m n
without_notes [] m n led = led
without_notes (leg ∷ legs) m n (next, leads, rest) = (next, leads, without_notes legs next n rest)

-- so legs lead where others do that are the same but for that
alike_lead : (front same : List PlannedLeg) → AreAlike front same → (m n : MachineState) → LegsLead front m n → LegsLead same m n
alike_lead front same alike m n led =
    without_notes same m n (subst (λ (legs : List PlannedLeg). LegsLead legs m n) (sym alike) (noting_leads front m n led))

-- ---- a plan that goes on from another

module _ (image : ImageContents) (old new : List PlannedLeg) (now : MachineState) (kept : KeepsUp image old now) (plan : IsPlan (guest_of image) new)
    (on : GoOnFrom old new) (log : IsLog on.next.edges.start on.next.edges.rows) where
  abbrev parts : (mid : MachineState) × LegsLead on.front (boot_machine image) mid × LegLeads on.last mid now
  parts = split_last on.front on.last (boot_machine image) now (subst (λ (legs : List PlannedLeg). IsOutcome image legs now) on.was kept.led)

  abbrev mid : MachineState
  mid = parts.0

  so_far_old : IsSoFar image old (length on.front) mid
  so_far_old =
      along image old kept.plan on.front [] (on.last ∷ []) on.was (boot_machine image) mid (boot_so_far image old (boot_machine image) kept.plan refl) parts.1

  so_far_new : IsSoFar image new (length on.same) mid
  so_far_new =
      along image new plan on.same [] (on.next ∷ on.back) on.is (boot_machine image) mid (boot_so_far image new (boot_machine image) plan refl)
      (alike_lead on.front on.same on.alike (boot_machine image) mid parts.1)

  within_old : length on.front < length old
  within_old = subst (λ (xs : List PlannedLeg). length on.front < length xs) (sym on.was) (seam_within on.front on.last [])

  within_new : length on.same < length new
  within_new = subst (λ (xs : List PlannedLeg). length on.same < length xs) (sym on.is) (seam_within on.same on.next on.back)

  here_old : on.last ≡ get_or old (length on.front) on.last
  here_old = sym (ap (λ (xs : List PlannedLeg). get_or xs (length on.front) on.last) on.was ∙ get_or-append_seam on.front on.last [] on.last)

  here_new : on.next ≡ get_or new (length on.same) on.next
  here_new = sym (ap (λ (xs : List PlannedLeg). get_or xs (length on.same) on.next) on.is ∙ get_or-append_seam on.same on.next on.back on.next)

  come_on : HasCome on.next mid now
  come_on =
      begun on.last on.next on.begins log mid now (leg_is image old kept.plan (length on.front) mid so_far_old on.last within_old here_old)
      (leg_is image new plan (length on.same) mid so_far_new on.next within_new here_new)
      (leg_base image new plan (length on.same) mid so_far_new on.next within_new here_new) parts.2

  pub goes_on_at : IsAt image new (length on.same) now
  goes_on_at =
      record {
        found = mid;
        so_far = so_far_new;
        come =
            subst (λ (o : Option PlannedLeg). HasComeIn o mid now)
            (sym (ap (λ (xs : List PlannedLeg). slice_get xs (length on.same)) on.is ∙ at_seam on.same on.next on.back)) come_on;
      }

  -- at the place of the last leg of those from which the plan goes on
  front_at : (first : ℕ) → first + 1 ≡ length old → length on.same ≡ first
  front_at first many =
      let all : length old ≡ length on.front + 1 = ap length on.was ∙ length-append on.front (on.last ∷ []) in
      omega (arith, many, all, many_alike on.front on.same on.alike)

  pub goes_on_from : (first : ℕ) → first + 1 ≡ length old → IsAt image new first now
  goes_on_from first many = subst (λ (n : ℕ). IsAt image new n now) (front_at first many) goes_on_at

pub follows_at : (image : ImageContents) (old new was planned : List PlannedLeg) (now machine : MachineState) (guest : GuestParts) → KeepsUp image old now →
    IsPlan guest new → guest ≡ guest_of image → GoOnFrom old new → was ≡ old → planned ≡ new → machine ≡ now → (leg : PlannedLeg) →
    leg ≡ get_or planned (length was - 1) leg → IsLog leg.edges.start leg.edges.rows → IsAt image planned (length was - 1) machine
follows_at image old new was planned now machine guest kept plan same on w p e leg is log =
    let all : length old ≡ length on.front + 1 = ap length on.was ∙ length-append on.front (on.last ∷ []) in
    let many : length old - 1 + 1 ≡ length old = omega (arith, all) in
    let seam = seam_within on.same on.next on.back in
    let long : length new ≡ length (on.same ++ on.next ∷ on.back) = ap length on.is in
    let within : length old - 1 < length new = omega (arith, all, seam, long, many_alike on.front on.same on.alike) in
    let here : leg ≡ get_or new (length old - 1) leg =
    subst (λ (xs : List PlannedLeg). leg ≡ get_or xs (length old - 1) leg) p
    (subst (λ (xs : List PlannedLeg). leg ≡ get_or planned (length xs - 1) leg) w is) in
    let next = next_is old new on (length old - 1) leg many within here in
    subst (λ (xs : List PlannedLeg). IsAt image planned (length xs - 1) machine) (sym w)
    (subst (λ (xs : List PlannedLeg). IsAt image xs (length old - 1) machine) (sym p)
    (subst (λ (x : MachineState). IsAt image new (length old - 1) x) (sym e)
    (goes_on_from image old new now kept (subst (λ (g : GuestParts). IsPlan g new) same plan) on
    (subst (λ (l : PlannedLeg). IsLog l.edges.start l.edges.rows) (sym next) log) (length old - 1) many)))
