use Rattle.std.proofs.Common.{◌≡◌, ◌<◌, ◌≤◌, ⊎_elim, ℕ, List, length, slice_index, arith, ap, subst, sym, ◌∙◌}
use Rattle.std.specs.List.{Contains}
use Rattle.std.proofs.lemmas.Bool.{cases_eq}
use Rattle.guest_image.specs.Machine.{MachineState}
use Rattle.input_log.specs.Notes.{NotesOfOne, notes_of}
use Rattle.pair.proofs.GoneOut.{upto_more}
use Rattle.pair.proofs.beside.are_notes_out.Goals as goal

pub loop-number-init : goal.loop-number-init
loop-number-init c = λ hart note below there. absurd (omega (arith, below))

pub loop-number-preserved : goal.loop-number-preserved
loop-number-preserved c =
    upto_more c.args.book.now.mode.notes c.first_ones-many.result c.loop-number.number c.loop-number.invariant
    (λ note there. subst (λ (p : ℕ). note.1 ≤ slice_index c.first_ones-many.result p) (c.index.ensures.value ∙ c.new-hart.ensures)
    (c.tell_at_most.ensures c.if-not-tell_at_most.false note
    (subst (λ (xs : List (ℕ × ℕ)). Contains xs note)
    (ap (λ (h : ℕ). notes_of c.args.book.now.mode.notes h) (sym c.new-hart.ensures) ∙ ap (λ (log : List NotesOfOne). notes_of log c.new-hart.result) (sym c.notes.ensures.value)
    ∙ sym c.of_hart.ensures.value) there)))

pub returns : goal.returns
returns c = λ yes hart number note within there below.
    let over = c.loop-number-test.false in
    let many = c.harts-number-end.ensures.value in
    let here : hart < length c.machine.result.now.harts = subst (λ (m : MachineState). hart < length m.harts) (sym c.machine.ensures.value) within in
    let few = c.loop-number.invariant hart note (omega (arith, over, many, here)) there in
    c.first_ones-many.ensures hart number (omega (arith, few, below))
