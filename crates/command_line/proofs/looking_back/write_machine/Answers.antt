use Rattle.std.proofs.Common.{inr, refl}
use Rattle.command_line.specs.LookingBack.{IsMachineAt}
use Rattle.command_line.proofs.Placed.{text_told, told_is_elsewhere}
use Rattle.command_line.proofs.looking_back.write_machine.Goals as goal

pub returns-in-Ok-clause-written : goal.returns-in-Ok-clause-written
returns-in-Ok-clause-written g c =
    rw c.written.ensures (text_told (IsMachineAt c.args.image.now c.args.store.now c.args.place) c.in-Ok.machine c.write_text.result _ _ _ _
    c.in-Ok.ensures.ok c.write_text.ensures)

pub returns-in-Ok-clause-none : goal.returns-in-Ok-clause-none
returns-in-Ok-clause-none g c = rw c.written.ensures (told_is_elsewhere c.write_text.result _)

pub returns-in-Err-clause-written : goal.returns-in-Err-clause-written
returns-in-Err-clause-written g c = inr (c.in-Err.ensures.unwritten, refl, refl)
