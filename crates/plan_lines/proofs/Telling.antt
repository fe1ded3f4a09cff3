-- Of honest frames a line's machine is at each moment the history's.
use Rattle.std.proofs.Common.{◌≡◌, ℕ, zero, suc, ◌+◌, List, [], ◌∷◌, ◌++◌, take, drop, slice_get, Option, Some, Contains, refl, ap, sym, subst, ◌∙◌}
use Rattle.std.proofs.Math.Path.{fun_ext}
use Rattle.std.proofs.lemmas.List.Elements.{All-contains, Contains-append_right}
use Rattle.ft_types.specs.Counts.{count_at}
use Rattle.ft_types.specs.declared.position.Position.{Position}
use Rattle.interleaving.specs.Machine.{Machine, run, at}
use Rattle.interleaving.specs.Log.{counts_after, turns_of}
use Rattle.interleaving.specs.Stored.{system_of, view}
use Rattle.interleaving.proofs.Beginnings.{reached}
use Rattle.interleaving.proofs.Cuts.{here}
use Rattle.log_join.specs.Stores.{StoreView, IsStore}
use Rattle.log_join.specs.Families.{Past}
use Rattle.rv32_hart.specs.Hart.{Hart}
use Rattle.rv32_hart.specs.Hardware.{hardware}
use Rattle.guest_image.specs.Image.{ImageContents}
use Rattle.guest_image.specs.Machine.{MachineState, boot_machine}
use Rattle.hart_lease.specs.Runs.{run_of, counts_of}
use Rattle.hart_lease.proofs.journals.Sizes.{is_run, counts_ran}
use Rattle.hart_replay.specs.declared.plans.PlannedLeg.{PlannedLeg}
use Rattle.hart_replay.specs.Facts.{EndsInside, HasEdges, HasInputs}
use Rattle.hart_replay.specs.Plans.{BeginsAtBase, log_of}
use Rattle.hart_replay.specs.Histories.{TermHistory, InTerm, IsHonestStore, machine_in}
use Rattle.hart_replay.specs.Images.{GuestHistory, machine_of}
use Rattle.hart_replay.specs.Laws.{ArePlanned}
use Rattle.hart_replay.specs.Replays.{leg_turns, IsOutcome}
use Rattle.hart_replay.proofs.honesty.Images.{honest_in}
use Rattle.hart_replay.proofs.honesty.Legs.{is_cut, same_start, begins_of_log, leg_turns as turns_of_log}
use Rattle.hart_replay.proofs.honesty.Plans.{finds_start}
use Rattle.hart_replay.proofs.honesty.Replays.{boot_pages, legs_keep_pages, lead_from}
use Rattle.least_cuts.proofs.Legs.{about}
use Rattle.plan_lines.specs.Laws.{MomentsTellHistories}
use Rattle.plan_lines.proofs.Cutting.{begun_at_boot}
use Rattle.plan_lines.proofs.Histories.{ComesAlong, has_come}

module _ (image : ImageContents) (history : GuestHistory) (store : StoreView) (position : Position) (rules : IsStore store)
    (honest : IsHonestStore (system_of (hardware image.pages)) (view (hardware image.pages) (boot_machine image)) history store)
    (front : List PlannedLeg) (leg : PlannedLeg) (back : List PlannedLeg) (planned : ArePlanned store position (front ++ leg ∷ back))
    (found now : MachineState) (led : IsOutcome image front found) (order : List ℕ) (along : ComesAlong leg found now order) where
  abbrev size : ℕ
  size = image.pages

  abbrev boot : Machine (Option Hart) (Option (List ℕ))
  boot = view (hardware image.pages) (boot_machine image)

  known : InTerm history leg.term (λ t. view (hardware image.pages) found ≡ t.start)
  known =
      finds_start (system_of (hardware size)) boot history store rules honest position front leg back planned (view (hardware size) found)
      (lead_from size front (boot_machine image) found (boot_pages image) led)

  among : Contains (front ++ leg ∷ back) leg
  among = Contains-append_right front (leg ∷ back) leg (here leg back)

  bases : BeginsAtBase store leg
  bases = All-contains (BeginsAtBase store) (front ++ leg ∷ back) leg planned.bases among

  cuts : EndsInside store leg
  cuts = All-contains (EndsInside store) (front ++ leg ∷ back) leg planned.cuts among

  edges : HasEdges store leg
  edges = All-contains (HasEdges store) (front ++ leg ∷ back) leg planned.edges among

  inputs : HasInputs store leg
  inputs = All-contains (HasInputs store) (front ++ leg ∷ back) leg planned.inputs among

  abbrev told : TermHistory (Option Hart) (Option (List ℕ))
  told = known.0.told

  ran : view (hardware image.pages) now ≡ run (system_of (hardware image.pages)) told.start (leg_turns leg order)
  ran =
      (is_run size found now (leg_turns leg order) (legs_keep_pages front (boot_machine image) found led ∙ boot_pages image) along.run).is
      ∙ ap (λ (x : Machine (Option Hart) (Option (List ℕ))). run (system_of (hardware size)) x (leg_turns leg order)) known.2

  same_turns : leg_turns leg order ≡ turns_of told.log.inputs told.log.start order
  same_turns = turns_of_log (system_of (hardware size)) boot history store rules honest leg known.0 known.1 bases cuts edges inputs order along.begins

  at_counts : run (system_of (hardware image.pages)) told.start (turns_of told.log.inputs told.log.start order) ≡
      at (system_of (hardware image.pages)) told.start told.turns (counts_after told.log.start order)
  at_counts =
      (reached (system_of (hardware size)) told.log told.start told.turns (count_at leg.ends) order
      (honest.is_history.terms leg.term known.0 known.1).honest
      (is_cut (system_of (hardware size)) boot history store rules honest leg known.0 known.1 bases cuts edges inputs)
      (begins_of_log (system_of (hardware size)) boot history store rules honest leg known.0 known.1 bases cuts edges inputs order along.begins)).1

  counts_are : counts_after told.log.start order ≡ counts_of now
  counts_are =
      ap (λ (s : ℕ → ℕ). counts_after s order)
      (sym (same_start (system_of (hardware size)) boot history store rules honest leg known.0 known.1 bases cuts edges inputs) ∙ fun_ext along.base)
      ∙ sym (counts_ran found now (log_of leg).inputs order
      (ap (λ (c : ℕ → ℕ). run_of found (turns_of (log_of leg).inputs c order)) (sym (fun_ext along.base)) ∙ along.run))

  pub told_there : view (hardware image.pages) now ≡ machine_of image history leg.term (counts_of now)
  told_there =
      ran
      ∙ ap (run (system_of (hardware size)) told.start) same_turns
      ∙ at_counts
      ∙ ap (at (system_of (hardware size)) told.start told.turns) counts_are
      ∙ sym (ap (λ (p : Option (Past (TermHistory (Option Hart) (Option (List ℕ))))). machine_in (system_of (hardware size)) boot p (counts_of now)) known.1)

-- at each moment it is the history's machine at the counts
pub moments_tell : MomentsTellHistories
moments_tell image legs leg t on history store position rules honest planned =
    let begun = begun_at_boot image legs (boot_machine image) refl on.plan in
    let come = has_come image legs on.plan (boot_machine image) begun t on.leads in
    told_there image history store position rules (honest_in image history store honest) (take t.place legs) leg (drop (suc t.place) legs)
    (subst (λ (xs : List PlannedLeg). ArePlanned store position xs) (about legs t.place leg on.found) planned)
    come.found t.machine come.led come.order (come.along leg on.found)
