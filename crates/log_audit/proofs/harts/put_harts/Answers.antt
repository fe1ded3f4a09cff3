use Rattle.std.proofs.Common.{rules, ap, ◌∙◌, ◌≡◌, slice_get, Some, sym}
use Rattle.guest_image.specs.Machine.{MachineState}
use Rattle.log_audit.proofs.Lists.{one_more_in_place, get_at}
use Rattle.log_audit.proofs.harts.put_harts.Goals as goal

pub loop-number-preserved : goal.loop-number-preserved
loop-number-preserved c =
    let there : slice_get c.args.harts.now c.loop-number.number ≡ Some c.in_ok-copy.field-0 =
    ap (slice_get c.args.harts.now) (sym (c.index.ensures.value ∙ c.new-hart.ensures))
    ∙ (get_at c.args.harts.now c.index.result c.index-harts-index.result c.index-harts-index.is (search rules) ∙ ap Some (sym c.in_ok-copy.ensures)) in
    rw (c.put_hart.ensures, c.loop-number.invariant, c.new-hart.ensures)
    (ap (λ hs. let m : MachineState = record { harts = hs; pages = c.args.machine.now.pages } in m)
    (one_more_in_place c.args.machine.now.harts c.args.harts.now c.loop-number.number c.in_ok-copy.field-0 there (search rules)))
