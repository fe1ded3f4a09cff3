use Rattle.std.proofs.Common.{◌≡◌, ◌+◌, ◌∙◌, List, Result, IfOk, filter, length, ap, refl, sym, subst}
use Rattle.std.specs.List.{AllByRecursion}
use Rattle.ack_core.specs.Seats.{term_of, IsGateOf}
use Rattle.ft_types.specs.declared.errors.Memory.{Memory}
use Rattle.ft_types.specs.declared.output.Output.{Output}
use Rattle.book_modes.specs.Recordings.{RecordingView}
use Rattle.page_book.specs.Books.{BookView}
use Rattle.primary.specs.Outputs.{outputs_in}
use Rattle.pair.specs.Leading.{HasLed}
use Rattle.pair.specs.Released.{IsPartOf, is_among}
use Rattle.pair.specs.Serving.{IsHeard, IsHeldOnTheWay}
use Rattle.pair.specs.declared.gate_thread.GateEnd.{GateEnd}
use Rattle.pair.proofs.HeldOutputs.{all_held, if_ok}
use Rattle.pair.proofs.threads.run_all.Goals as goal

pub returns-clause-led : goal.returns-clause-led
returns-clause-led g c =
    let said = c.end_of.ensures in
    if_ok c.end_of.result (λ end. HasLed c.args.primary_post.primary.book end.book) said.rest said.rest said.rest
    (λ end rest _ _. subst (λ (b : BookView RecordingView). HasLed c.args.primary_post.primary.book b) (sym rest.1)
    (subst (λ (r : Result (BookView RecordingView) Memory). IfOk r (λ b. HasLed c.args.primary_post.primary.book b)) c.in_ok-book.was c.join-gate.ensures.second))

pub returns-clause-inside : goal.returns-clause-inside
returns-clause-inside g c =
    let board = c.args.board.now in
    let need = c.args.watch.gate.need in
    let gate = c.in_ok-gate.field-0 in
    let heard : AllByRecursion (IsHeard board gate.seat need) gate.released.items =
    (subst (λ (r : Result GateEnd Memory). IfOk r (λ end. IsGateOf board end.seat × AllByRecursion (IsHeard board end.seat need) end.released.items)) c.in_ok-gate.was
    c.join-gate.ensures.first.0).1 in
    let said = c.end_of.ensures in
    if_ok c.end_of.result (λ end. AllByRecursion (IsHeldOnTheWay end.stores.items (term_of board) need) end.released.items) said.stores said.had said.released
    (λ end count had released. subst (λ (outputs : List Output). AllByRecursion (IsHeldOnTheWay end.stores.items (term_of board) need) outputs) (sym released)
    (all_held board gate.seat end.stores.items (term_of board) need gate.released.items (outputs_in c.in_ok-book.field-0.machine) heard had count refl))

pub returns-clause-part : goal.returns-clause-part
returns-clause-part g c =
    let said = c.end_of.ensures in
    if_ok c.end_of.result (λ end. IsPartOf end.released.items (outputs_in end.book.machine)) said.rest said.released said.released
    (λ end rest released _. (
      is_among c.in_ok-gate.field-0.released.items,
      released ∙ ap (λ (b : BookView RecordingView). filter (is_among c.in_ok-gate.field-0.released.items) (outputs_in b.machine)) (sym rest.1),
    ))

pub returns-clause-kept : goal.returns-clause-kept
returns-clause-kept g c =
    let said = c.end_of.ensures in
    if_ok c.end_of.result (λ end. length end.released.items + end.kept ≡ length (outputs_in end.book.machine)) said.rest said.kept said.kept
    (λ end rest kept _. kept ∙ ap (λ (b : BookView RecordingView). length (outputs_in b.machine)) (sym rest.1))
