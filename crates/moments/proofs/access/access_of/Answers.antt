use Rattle.std.proofs.Common.{◌≡◌, refl}
use Rattle.rv32_hart.specs.Hart.{Hart}
use Rattle.rv32_hart.specs.Csrs.{received_all}
use Rattle.plan_lines.specs.declared.access.Access.TheVariants.{Nothing}
use Rattle.plan_lines.specs.Uses.{used_next}
use Rattle.moments.specs.machinery.Machines.{machine_of}
use Rattle.moments.proofs.Uses.{of_found, used_outside, used_fetched}
use Rattle.moments.proofs.access.access_of.Goals as goal

pub returns-in_default : goal.returns-in_default
returns-in_default c =
    of_found (machine_of c.args.machine.now).harts c.args.hart c.hart-state.result.now
    (λ (h : Hart). Nothing ≡ used_next (machine_of c.args.machine.now).pages (received_all c.args.inputs.now h)) c.hart-state.ensures
    (used_outside (machine_of c.args.machine.now).pages c.args.inputs.now c.hart-state.result.now c.is_interrupted.result c.is_interrupted.ensures
    c.if-is_interrupted.false c.pages.result c.pc.result c.pages.ensures.value c.pc.ensures c.in_default.ensures.none)

pub returns-in-Some-decode : goal.returns-in-Some-decode
returns-in-Some-decode c =
    of_found (machine_of c.args.machine.now).harts c.args.hart c.hart-state.result.now
    (λ (h : Hart). c.used_by.result ≡ used_next (machine_of c.args.machine.now).pages (received_all c.args.inputs.now h)) c.hart-state.ensures
    (used_fetched (machine_of c.args.machine.now).pages c.args.inputs.now c.hart-state.result.now c.is_interrupted.result c.is_interrupted.ensures
    c.if-is_interrupted.false c.pages.result c.pc.result c.pages.ensures.value c.pc.ensures c.in-Some.ensures.some _ _ c.word.result c.in-Some.ensures.page
    c.in-Some.ensures.offset c.word.ensures _ c.in-Some-decode.ensures.value c.used_by.result (rw c.pages-in-Some-decode.ensures.value at c.used_by.ensures))

pub returns-in-None : goal.returns-in-None
returns-in-None c =
    of_found (machine_of c.args.machine.now).harts c.args.hart c.hart-state.result.now
    (λ (h : Hart). Nothing ≡ used_next (machine_of c.args.machine.now).pages (received_all c.args.inputs.now h)) c.hart-state.ensures
    (used_fetched (machine_of c.args.machine.now).pages c.args.inputs.now c.hart-state.result.now c.is_interrupted.result c.is_interrupted.ensures
    c.if-is_interrupted.false c.pages.result c.pc.result c.pages.ensures.value c.pc.ensures c.in-Some.ensures.some _ _ c.word.result c.in-Some.ensures.page
    c.in-Some.ensures.offset c.word.ensures _ c.in-None.ensures.value Nothing refl)
