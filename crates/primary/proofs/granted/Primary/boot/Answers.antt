use Rattle.std.proofs.Common.{length, ap, sym, ◌∙◌, ◌^◌, ◌-◌}
use Rattle.std.proofs.lemmas.List.{length-replicate}
use Rattle.guest_image.specs.Machine.{MachineState}
use Rattle.hart_replay.proofs.walking.Outcomes.{booted_length}
use Rattle.primary.proofs.granted.Primary.boot.Goals as goal

pub begin-requires : goal.begin-requires
begin-requires c =
    ap length c.no_limits.ensures ∙ length-replicate c.harts-harts.result (2 ^ 48 - 1)
    ∙ c.harts-harts.ensures.value
    ∙ sym (ap (λ (m : MachineState). length m.harts) c.in_ok-start.ensures.machine ∙ booted_length c.args.image.now.harts 0 c.args.image.now.harts)
