use Rattle.std.proofs.Common.{◌∙◌, ap, sym, length, refl}
use Rattle.guest_image.specs.Machine.{MachineState}
use Rattle.guest_image.proofs.MachineFacts.{whole_with_hart, found_there}
use Rattle.guest_image.proofs.machine.Machine.take_hart_but_outputs.Goals as goal

pub invariant_of-self : goal.invariant_of-self
invariant_of-self c =
    rw c.index.ensures.value
    (whole_with_hart c.self.inside.harts.items c.self.inside.pages.items c.args.hart c.become_but_outputs.new.self
    (ap (λ h. h.number) c.become_but_outputs.ensures ∙ c.requires.number)
    (ap (λ h. h.harts) c.become_but_outputs.ensures ∙ (c.requires.harts ∙ sym (ap (λ (m : MachineState). length m.harts) c.self.view_is))) c.self.invariant)

pub returns : goal.returns
returns c h e =
    let same = found_there c.self.inside.harts.items c.index.result c.index_mut.result.now h c.index_mut.ensures.value
    (rw (← c.self.view_is, ← c.index.ensures.value) at e) in
    rw (c.become_but_outputs.ensures, same, c.index.ensures.value, ← c.self.view_is) refl
