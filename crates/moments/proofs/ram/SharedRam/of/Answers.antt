use Rattle.std.proofs.Common.{◌∙◌, sym, ap, slice_get, Some}
use Rattle.moments.specs.declared.ram.Part.TheVariants.{Shared}
use Rattle.moments.proofs.Parts.{part_more}
use Rattle.moments.proofs.ram.SharedRam.of.Goals as goal

pub loop-number-preserved : goal.loop-number-preserved
loop-number-preserved c =
    part_more c.loop-number.parts.items c.push.new.self.items c.args.machine.now.pages c.loop-number.number (Shared c.in_ok-try_clone.field-0)
    c.in_ok-push.ensures.items c.loop-number.invariant
    (ap (slice_get c.args.machine.now.pages) (sym c.new.ensures) ∙ c.page-page.ensures ∙ ap Some (sym c.in_ok-try_clone.ensures))
