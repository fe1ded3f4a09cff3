use Rattle.std.proofs.Common.{◌≡◌, ◌+◌, ◌<◌, ℕ, true, false, List, length, min, Result, Ok, Err, IsOk, OnOk, Some, None, refl, sym, ap, ◌∙◌, arith}
use Rattle.ft_types.specs.declared.output.Output.{Output}
use Rattle.input_log.specs.Notes.{notes_of}
use Rattle.hart_lease.specs.Runs.{counts_of}
use Rattle.page_book.specs.Books.{BookView}
use Rattle.book_modes.specs.Recordings.{RecordingView, IsNoting}
use Rattle.guest_image.specs.Machine.{MachineState}
use Rattle.primary.specs.Outputs.{said_by, said_at}
use Rattle.primary.specs.Noting.{last_of, noted_to, NotesOne}
use Rattle.primary.proofs.Last.{last_said}
use Rattle.primary.proofs.noting.note_hart.Goals as goal

its_result : {A E : Type 0} (r : Result A E) (P : Type 0) → IsOk r → OnOk r P → P
its_result (Ok x) P is p = p
its_result (Err e) P is p = let never : false ≡ true = is in cc

-- where none of the hart's went out
nothing : (hart : ℕ) (given : List Output) (b : BookView RecordingView) → last_of hart given ≡ None → NotesOne hart given b b
nothing hart given b none =
    record {
      rest = refl;
      own = ap (λ last. noted_to last (counts_of b.machine hart) (notes_of b.mode.notes hart)) (sym none);
      others = λ other ne. refl;
      others_room = λ other ne room. room;
    }

-- where one did
something : (hart last : ℕ) (given : List Output) (b c : BookView RecordingView) → last_of hart given ≡ Some last →
    IsNoting b.mode hart (counts_of b.machine hart) (min (last + 1) (counts_of b.machine hart)) c.mode → c ≡ record b { mode = c.mode } →
    NotesOne hart given b c
something hart last given b c some noting book =
    record {
      rest = book ∙ ap (λ (m : RecordingView). let x : BookView RecordingView = record b { mode = m } in x) noting.rest;
      own = noting.noted ∙ ap (λ last. noted_to last (counts_of b.machine hart) (notes_of b.mode.notes hart)) (sym some);
      others = noting.others;
      others_room = noting.others_room;
    }

pub overflow_add-last : goal.overflow_add-last
overflow_add-last c =
    let m = c.args.book.now.machine in
    let less : c.in-Some.last < length (said_at m c.args.hart) =
    last_said c.args.given.now m c.args.hart c.in-Some.last c.requires.said c.in-Some.ensures.some in
    let said : c.outputs-outputs.result.now ≡ said_at m c.args.hart =
    c.outputs-outputs.ensures ∙ ap said_by (sym c.hart.ensures) ∙ ap (λ (x : MachineState). said_at x c.args.hart) c.machine.ensures.value in
    let many = ap length said in omega (arith, less, many)

pub note_released-noted-requires-clause-outputs : goal.note_released-noted-requires-clause-outputs
note_released-noted-requires-clause-outputs c h at =
    let less =
    last_said c.args.given.now c.args.book.now.machine c.args.hart c.in-Some.last c.requires.said c.in-Some.ensures.some in
    let same = ap (λ x. length (said_by x)) at in omega (arith, less, same)

pub returns-in_default : goal.returns-in_default
returns-in_default c = nothing c.args.hart c.args.given.now c.args.book.now c.in_default.ensures.none

pub returns : goal.returns
returns c =
    let made = c.note_released-noted.ensures in
    something c.args.hart c.in-Some.last c.args.given.now c.args.book.now c.note_released-noted.new.self c.in-Some.ensures.some
    (its_result c.note_released-noted.result _ (made.room c.requires.room) made.noted) made.book
