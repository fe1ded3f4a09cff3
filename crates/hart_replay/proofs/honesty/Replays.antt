-- Replays of honest frames.
use Rattle.std.proofs.Common.{◌≡◌, ℕ, zero, suc, List, [], ◌∷◌, ◌++◌, length, drop, Option, Result, Ok, Err, IfOk, IfErr, Contains, refl, ap, subst, ◌∙◌, inl}
use Rattle.std.proofs.Common.{inr}
use Rattle.std.proofs.lemmas.List.Elements.{All-contains, Contains-append_right}
use Rattle.ft_types.specs.Counts.{count_at}
use Rattle.interleaving.specs.Machine.{Machine, run}
use Rattle.interleaving.specs.Log.{IsStuck, counts_after}
use Rattle.interleaving.specs.Stored.{system_of, view}
use Rattle.interleaving.proofs.Cuts.{here}
use Rattle.log_join.specs.Stores.{StoreView, IsStore}
use Rattle.ft_types.specs.declared.position.Position.{Position}
use Rattle.rv32_hart.specs.Hart.{Hart}
use Rattle.rv32_hart.specs.Hardware.{hardware}
use Rattle.guest_image.specs.Image.{ImageContents}
use Rattle.guest_image.specs.Machine.{MachineState, boot_machine, pages_with}
use Rattle.hart_replay.specs.declared.plans.PlannedLeg.{PlannedLeg}
use Rattle.hart_replay.specs.declared.fault.ReplayFault.{ReplayFault}
use Rattle.hart_replay.specs.declared.fault.ReplayFault.TheVariants.{Cyclic, HaltedInside, OtherGuest, Memory}
use Rattle.hart_replay.specs.Facts.{EndsInside, HasEdges, HasInputs}
use Rattle.hart_replay.specs.Plans.{BeginsAtBase, log_of}
use Rattle.hart_replay.specs.Histories.{InTerm, IsHonestStore}
use Rattle.hart_replay.specs.Images.{GuestHistory, machine_of}
use Rattle.hart_replay.specs.Laws.{ArePlanned, LeadFrom, FollowsTerm}
use Rattle.hart_replay.specs.Replays.{leg_turns, LegsLead, IsOutcome, GetsStuck, IsAtLeg, IsCyclicAt, HaltsInsideAt, IfCyclic, IfHaltedInside, ReplaysHistory}
use Rattle.hart_replay.specs.Leading.{IsLegsFault}
use Rattle.hart_replay.proofs.honesty.Images.{honest_in}
use Rattle.hart_replay.proofs.honesty.Legs.{follows}
use Rattle.hart_replay.proofs.honesty.Plans.{finds_start, leads_to_position}
use Rattle.hart_lease.proofs.journals.Sizes.{is_run, as_large}
use Rattle.hart_replay.proofs.walking.Outcomes.{left_as_large}

many_pages : (n : ℕ) (words : List ℕ) → length (pages_with n words) ≡ n
unfolding pages_with
many_pages zero words = refl
many_pages (suc n) words = ap suc (many_pages n (drop 1024 words))

pub boot_pages : (image : ImageContents) → length (boot_machine image).pages ≡ image.pages
boot_pages image = many_pages image.pages image.words

pub legs_keep_pages : (legs : List PlannedLeg) (m n : MachineState) → LegsLead legs m n → length n.pages ≡ length m.pages
legs_keep_pages [] m n same = ap (λ (x : MachineState). length x.pages) same
legs_keep_pages (leg ∷ legs) m n (next, leads, rest) = legs_keep_pages legs next n rest ∙ (left_as_large leg m next leads).pages

-- what legs lead to, in the theory's words
pub lead_from : (size : ℕ) (legs : List PlannedLeg) (m n : MachineState) → length m.pages ≡ size → LegsLead legs m n →
    LeadFrom (system_of (hardware size)) (view (hardware size) m) legs (view (hardware size) n)
lead_from size [] m n pages same = ap (view (hardware size)) same
lead_from size (leg ∷ legs) m n pages (next, (order, schedule, ran), rest) =
    let r = is_run size m next (leg_turns leg order) pages ran in
    let large = as_large m next (leg_turns leg order) ran in (
      order,
      schedule,
      r.runs,
      subst (λ (x : Machine (Option Hart) (Option (List ℕ))). LeadFrom (system_of (hardware size)) x legs (view (hardware size) n)) r.is
          (lead_from size legs next n (large.pages ∙ pages) rest),
    )

module _ (image : ImageContents) (legs : List PlannedLeg) (history : GuestHistory) (store : StoreView) (position : Position)
    (rules : IsStore store) (honest : IsHonestStore (system_of (hardware image.pages)) (view (hardware image.pages) (boot_machine image)) history store)
    (planned : ArePlanned store position legs) where
  abbrev size : ℕ
  size = image.pages

  abbrev boot : Machine (Option Hart) (Option (List ℕ))
  boot = view (hardware image.pages) (boot_machine image)

  pub at_position : (m : MachineState) → IsOutcome image legs m →
      view (hardware image.pages) m ≡ machine_of image history position.term (count_at position.counts)
  at_position m led =
      (leads_to_position (system_of (hardware size)) boot history store rules honest position legs planned).only (view (hardware size) m)
      (lead_from size legs (boot_machine image) m (boot_pages image) led)

  module _ (front : List PlannedLeg) (leg : PlannedLeg) (back : List PlannedLeg) (parts : legs ≡ front ++ leg ∷ back) (found : MachineState)
      (led : IsOutcome image front found) (order : List ℕ) (now : MachineState) (stuck : GetsStuck leg found order now) where
    planned_parts : ArePlanned store position (front ++ leg ∷ back)
    planned_parts = subst (λ (xs : List PlannedLeg). ArePlanned store position xs) parts planned

    known : InTerm history leg.term (λ t. view (hardware image.pages) found ≡ t.start)
    known =
        finds_start (system_of (hardware size)) boot history store rules honest position front leg back planned_parts (view (hardware size) found)
        (lead_from size front (boot_machine image) found (boot_pages image) led)

    among : Contains (front ++ leg ∷ back) leg
    among = Contains-append_right front (leg ∷ back) leg (here leg back)

    term_followed : FollowsTerm (system_of (hardware image.pages)) known.0.told leg
    term_followed =
        follows (system_of (hardware size)) boot history store rules honest leg known.0 known.1
        (All-contains (BeginsAtBase store) (front ++ leg ∷ back) leg planned_parts.bases among)
        (All-contains (EndsInside store) (front ++ leg ∷ back) leg planned_parts.cuts among)
        (All-contains (HasEdges store) (front ++ leg ∷ back) leg planned_parts.edges among)
        (All-contains (HasInputs store) (front ++ leg ∷ back) leg planned_parts.inputs among)

    pages_found : length found.pages ≡ image.pages
    pages_found = legs_keep_pages front (boot_machine image) found led ∙ boot_pages image

    pages_now : length now.pages ≡ image.pages
    pages_now = (as_large found now (leg_turns leg order) stuck.run).pages ∙ pages_found

    now_is : view (hardware image.pages) now ≡ run (system_of (hardware image.pages)) known.0.told.start (leg_turns leg order)
    now_is =
        (is_run size found now (leg_turns leg order) pages_found stuck.run).is
        ∙ ap (λ (x : Machine (Option Hart) (Option (List ℕ))). run (system_of (hardware size)) x (leg_turns leg order)) known.2

    abbrev StuckOn : ℕ → Machine (Option Hart) (Option (List ℕ)) → Type 0
    StuckOn n x = IsStuck (system_of (hardware n)) (log_of leg).edges (count_at leg.ends) (counts_after (log_of leg).start order) x

    never_stuck : ⊥
    never_stuck =
        (term_followed.replayed order stuck.begins).not_stuck
        (subst (λ (x : Machine (Option Hart) (Option (List ℕ))). StuckOn image.pages x) now_is
        (subst (λ (n : ℕ). StuckOn n (view (hardware n) now)) pages_now stuck.stuck))

pub replays_history : (image : ImageContents) (legs : List PlannedLeg) (result : Result MachineState ReplayFault) → IfOk result (λ m. IsOutcome image legs m) →
    IfErr result (λ f. IsLegsFault image legs f) → ReplaysHistory image legs result
replays_history image legs (Ok m) ok fault history store position rules honest planned =
    at_position image legs history store position rules (honest_in image history store honest) planned m ok
replays_history image legs (Err (Cyclic counts)) ok at history store position rules honest planned =
    absurd
    (never_stuck image legs history store position rules (honest_in image history store honest) planned at.front at.leg at.back at.parts at.found
    at.led at.fault.order at.fault.machine at.fault.stuck)
replays_history image legs (Err (HaltedInside hart count)) ok at history store position rules honest planned =
    absurd
    (never_stuck image legs history store position rules (honest_in image history store honest) planned at.front at.leg at.back at.parts at.found
    at.led at.fault.order at.fault.machine at.fault.stuck)
replays_history image legs (Err OtherGuest) ok fault history store position rules honest planned = inl refl
replays_history image legs (Err Memory) ok fault history store position rules honest planned = inr refl

-- ---- the other clauses, for the faults of legs

pub no_other_guest : (image : ImageContents) (legs : List PlannedLeg) (result : Result MachineState ReplayFault) →
    IfErr result (λ f. IsLegsFault image legs f) →
    result ≡ Err OtherGuest → ⊥
no_other_guest image legs (Ok m) fault e = cc
no_other_guest image legs (Err (Cyclic counts)) fault e = cc
no_other_guest image legs (Err (HaltedInside hart count)) fault e = cc
no_other_guest image legs (Err OtherGuest) fault e = fault
no_other_guest image legs (Err Memory) fault e = cc

pub only_cyclic : (image : ImageContents) (legs : List PlannedLeg) (result : Result MachineState ReplayFault) → IfErr result (λ f. IsLegsFault image legs f) →
    IfErr result (λ f. IfCyclic f (λ counts. IsAtLeg image legs (λ leg m. IsCyclicAt leg m counts)))
only_cyclic image legs (Ok m) fault = tt
only_cyclic image legs (Err (Cyclic counts)) fault = fault
only_cyclic image legs (Err (HaltedInside hart count)) fault = tt
only_cyclic image legs (Err OtherGuest) fault = tt
only_cyclic image legs (Err Memory) fault = tt

pub only_halted : (image : ImageContents) (legs : List PlannedLeg) (result : Result MachineState ReplayFault) → IfErr result (λ f. IsLegsFault image legs f) →
    IfErr result (λ f. IfHaltedInside f (λ hart count. IsAtLeg image legs (λ leg m. HaltsInsideAt leg m hart count)))
only_halted image legs (Ok m) fault = tt
only_halted image legs (Err (Cyclic counts)) fault = tt
only_halted image legs (Err (HaltedInside hart count)) fault = fault
only_halted image legs (Err OtherGuest) fault = tt
only_halted image legs (Err Memory) fault = tt
