use Rattle.std.proofs.Common.{◌∙◌, sym, ap, List, slice_get, arith}
use Rattle.moments.specs.declared.ram.Part.{Part}
use Rattle.moments.specs.machinery.Parts.{contents_of}
use Rattle.moments.proofs.Parts.{part_more, part_there}
use Rattle.moments.proofs.ram.SharedRam.copy.Goals as goal

pub loop-part-preserved : goal.loop-part-preserved
loop-part-preserved c =
    part_more c.loop-part.parts.items c.push.new.self.items (contents_of c.args.self.now.parts.items) c.loop-part.part-index
    c.in_ok-part_copied.field-0 c.in_ok-push.ensures.items c.loop-part.invariant
    (ap (λ (parts : List Part). slice_get (contents_of parts) c.loop-part.part-index) (sym c.deref-part-items.ensures.value)
    ∙ part_there c.deref-part-items.result.now c.loop-part.part-index c.part-item.result c.in_ok-part_copied.field-0 c.part-item.is (omega arith)
    c.in_ok-part_copied.ensures)
