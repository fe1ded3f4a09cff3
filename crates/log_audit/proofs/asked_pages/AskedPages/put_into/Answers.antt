use Rattle.std.proofs.Common.{rules, ap, ◌∙◌, ◌≡◌, slice_get, Some, sym}
use Rattle.rv32_hart.specs.Ram.{Ram}
use Rattle.guest_image.specs.Machine.{MachineState}
use Rattle.log_audit.proofs.Lists.{one_more_in_place, get_at}
use Rattle.log_audit.proofs.asked_pages.AskedPages.put_into.Goals as goal

pub loop-number-preserved : goal.loop-number-preserved
loop-number-preserved c =
    let there : slice_get c.args.self.now.contents c.loop-number.number ≡ Some c.in_ok-copy.field-0 =
    ap (slice_get c.args.self.now.contents) (sym (c.index.ensures.value ∙ c.new-page.ensures))
    ∙ (ap (λ (r : Ram). slice_get r.contents c.index.result) (sym c.self.view_is)
    ∙ get_at c.self.inside.pages.items c.index.result c.index-in-loop-number.result.now c.index-in-loop-number.ensures (search rules)
    ∙ ap Some (sym c.in_ok-copy.ensures)) in
    rw (c.in_ok-put_page.ensures.put, c.loop-number.invariant, c.new-page.ensures)
    (ap (λ ps. let m : MachineState = record { harts = c.args.machine.now.harts; pages = ps } in m)
    (one_more_in_place c.args.machine.now.pages c.args.self.now.contents c.loop-number.number c.in_ok-copy.field-0 there (search rules)))
