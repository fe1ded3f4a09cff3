use Rattle.std.proofs.Common.{length, ap, arith, Bool, subst}
use Rattle.guest_image.specs.Machine.{MachineState}
use Rattle.book_modes.specs.declared.keep.Keep.TheVariants as told
use Rattle.lease_rounds.specs.Leading.{MayGoFor}
use Rattle.lease_rounds.proofs.GoingOn.{harts_stay}
use Rattle.hart_threads.proofs.alone.lead_alone.Goals as goal

pub hart-requires-in-loop-count-2 : goal.hart-requires-in-loop-count-2
hart-requires-in-loop-count-2 g c =
    let hart = c.new-hart.result in
    let before = c.let_go.new.book in
    let now = c.go_for.new.book in
    let on =
    subst (λ (went : Bool). MayGoFor g.M.Mode c.min-few.result told.All went hart before now) c.in-Ok-true.field-0-test c.in-Ok-true.ensures.goes in
    let stay = harts_stay g.M.Mode told.All hart before now on in
    let here = ap (λ (m : MachineState). length m.harts) c.machine-in-loop-count-2.ensures.value in
    let same = ap (λ (m : MachineState). length m.harts) c.in-Some.ensures.machine in
    let there = c.loop-count.invariant.hart in
    omega (arith, stay, here, same, there)
