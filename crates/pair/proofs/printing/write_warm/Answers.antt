use Rattle.std.proofs.Common.{◌≡◌, List, ℕ, ◌++◌, ap, subst, ◌∙◌}
use Rattle.std.proofs.lemmas.Result.{err_from_is_err_and}
use Rattle.guest_image.specs.Machine.{MachineState}
use Rattle.guest_image.specs.Text.{machine_text}
use Rattle.guest_image.proofs.TextFacts.{WritesTo, then_writes, then_stops}
use Rattle.ft_types.specs.declared.output.Output.{Output}
use Rattle.pair.specs.Printing.{live_line, parts_text}
use Rattle.pair.proofs.printing.write_warm.Goals as goal

pub returns-in_err-write_parts : goal.returns-in_err-write_parts
returns-in_err-write_parts g c =
    let end = c.args.end.now in
    let p = err_from_is_err_and c.from_residual.result c.from_residual.ensures.1 in
    let behind = live_line end.steps ++ machine_text end.live.book.machine in
    let parts : parts_text c.deref.result.now end.kept c.machine.result.now ≡ parts_text end.released.items end.kept end.book.machine =
    ap (λ (os : List Output). parts_text os end.kept c.machine.result.now) c.deref.ensures.value
    ∙ ap (λ (m : MachineState). parts_text end.released.items end.kept m) c.machine.ensures.value in
    subst (λ (t : List ℕ). WritesTo g.W.Sink.bytes g.W.Sink.failures c.from_residual.result c.args.out.now c.write_parts.new.out (t ++ behind)) parts
    (then_stops g.W.Sink.bytes g.W.Sink.failures c.from_residual.result p.0 c.args.out.now c.write_parts.new.out
    (parts_text c.deref.result.now end.kept c.machine.result.now) behind p.1 c.in_err-write_parts.ensures)

pub returns : goal.returns
returns g c =
    let end = c.args.end.now in
    let written : List ℕ → Type 0 = λ t. WritesTo g.W.Sink.bytes g.W.Sink.failures c.write_begun.result c.args.out.now c.write_begun.new.out t in
    let first = parts_text c.deref.result.now end.kept c.machine.result.now in
    let parts : first ≡ parts_text end.released.items end.kept end.book.machine =
    ap (λ (os : List Output). parts_text os end.kept c.machine.result.now) c.deref.ensures.value
    ∙ ap (λ (m : MachineState). parts_text end.released.items end.kept m) c.machine.ensures.value in
    let begun = ap (λ (m : MachineState). live_line end.steps ++ machine_text m) c.machine-2.ensures.value in
    subst (λ (t : List ℕ). written (t ++ (live_line end.steps ++ machine_text end.live.book.machine))) parts
    (subst (λ (t : List ℕ). written (first ++ t)) begun
    (then_writes g.W.Sink.bytes g.W.Sink.failures c.write_begun.result c.args.out.now c.write_parts.new.out c.write_begun.new.out first
    (live_line end.steps ++ machine_text c.machine-2.result.now) c.in_ok-write_parts.ensures c.write_begun.ensures))
