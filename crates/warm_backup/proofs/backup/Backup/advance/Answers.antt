use Rattle.std.proofs.Common.{◌≡◌, ◌⊎◌, inl, inr, List, Ok, Err, ap, subst, ◌∙◌}
use Rattle.std.proofs.lemmas.Result.{err_from_is_err_and}
use Rattle.guest_image.specs.Image.{ImageContents}
use Rattle.hart_replay.specs.declared.plans.PlannedLeg.{PlannedLeg}
use Rattle.hart_replay.specs.declared.fault.ReplayFault.{ReplayFault}
use Rattle.hart_replay.specs.declared.fault.ReplayFault.TheVariants.{Memory, OtherGuest}
use Rattle.hart_replay.specs.Leading.{IsLegsFault}
use Rattle.hart_replay.proofs.honesty.Replays.{replays_history}
use Rattle.warm_backup.specs.Backups.{BackupView}
use Rattle.warm_backup.specs.machinery.Working.{legs_of, machine_of}
use Rattle.warm_backup.proofs.backup.Backup.advance.Goals as goal

-- the store is of the image's guest
of_guest : (image : ImageContents) (legs : List PlannedLeg) (fault : ReplayFault) → IsLegsFault image legs fault → (fault ≡ OtherGuest) ⊎ (fault ≡ Memory) →
    fault ≡ Memory
of_guest image legs fault fails (inl other) = absurd (subst (λ (f : ReplayFault). IsLegsFault image legs f) other fails)
of_guest image legs fault fails (inr memory) = memory

pub returns-in_err-steps-clause-history : goal.returns-in_err-steps-clause-history
returns-in_err-steps-clause-history c =
    let p = err_from_is_err_and c.from_residual.result c.from_residual.ensures.1 in
    let image = c.self.inside.image in
    let fault = c.in_err-steps.field-0.0 in
    let same = c.store.ensures ∙ ap (λ (b : BackupView). b.store) c.self.view_is in
    λ history rules honest.
    rw (p.1, p.2)
    (elim c.in_err-steps.ensures.cause [
      | inl memory ↦ memory
      | inr (legs, planned, fails) ↦
          of_guest image legs fault fails
          (replays_history image legs (Err fault) tt fails history c.args.self.now.store c.position-end.result.now rules honest (rw same at planned))
    ])

pub returns-clause-history : goal.returns-clause-history
returns-clause-history c =
    let image = c.self.inside.image in
    let stand = c.go_to.new.stand in
    let end = c.position-end.result.now in
    let same = c.store.ensures ∙ ap (λ (b : BackupView). b.store) c.self.view_is in
    λ history rules honest.
    rw c.go_there.ensures
    (replays_history image (legs_of c.go_to.new.front.items stand end.counts) (Ok (machine_of stand)) c.in_ok-steps.ensures.kept.keeps.led tt history
    c.args.self.now.store end rules honest (rw same at c.in_ok-steps.ensures.planned))
