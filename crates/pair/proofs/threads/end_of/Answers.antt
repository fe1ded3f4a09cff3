use Rattle.std.proofs.Common.{◌≡◌, ◌≤◌, length, filter, ap, arith}
use Rattle.guest_image.specs.Machine.{MachineState}
use Rattle.primary.specs.Outputs.{outputs_in}
use Rattle.pair.specs.Released.{is_among}
use Rattle.pair.proofs.Among.{no_more}
use Rattle.pair.proofs.threads.end_of.Goals as goal

pub overflow_sub-kept : goal.overflow_sub-kept
overflow_sub-kept c =
    let outputs = outputs_in c.args.book.machine in
    let few : length (filter (is_among c.deref.result.now) outputs) ≤ length outputs = no_more (is_among c.deref.result.now) outputs in
    let given : length c.in_ok-released.released.items ≡ length (filter (is_among c.deref.result.now) outputs) = ap length c.in_ok-released.ensures.released in
    let same : length (outputs_in c.machine.result.now) ≡ length outputs = ap (λ (m : MachineState). length (outputs_in m)) c.machine.ensures.value in
    omega (arith, few, given, same, c.len.ensures, c.outputs_in_all.ensures, c.in_ok-released.released.ok.0)

pub returns-clause-kept : goal.returns-clause-kept
returns-clause-kept c =
    let outputs = outputs_in c.args.book.machine in
    let few : length (filter (is_among c.deref.result.now) outputs) ≤ length outputs = no_more (is_among c.deref.result.now) outputs in
    let given : length c.in_ok-released.released.items ≡ length (filter (is_among c.deref.result.now) outputs) = ap length c.in_ok-released.ensures.released in
    let same : length (outputs_in c.machine.result.now) ≡ length outputs = ap (λ (m : MachineState). length (outputs_in m)) c.machine.ensures.value in
    omega (arith, few, given, same, c.len.ensures, c.outputs_in_all.ensures, c.in_ok-released.released.ok.0)
