-- A book to which an input is offered, or whose hart tries to take a step.
use Rattle.std.proofs.Common.{◌≡◌, ℕ, List, [], ◌++◌, length, append-nil, Result, Ok, Err, OnOk, OnErr, sym, ap, ◌∙◌}
use Rattle.input_log.specs.declared.Input.{Input}
use Rattle.hart_lease.specs.declared.stretch.Stretch.{Stretch}
use Rattle.page_book.specs.Books.{BookView}
use Rattle.page_book.specs.Tellings.{TellsOn}
use Rattle.page_book.proofs.Tellings.{notes_kept, tells_the_same}
use Rattle.book_modes.specs.Recordings.{RecordingView, IsOffered}
use Rattle.lease_rounds.specs.Steps.{HasStepped, IsUnmoved}

-- it has the steps that it had, tells and notes the same of them, and its harts may go as far
pub record StaysSo (b c : BookView RecordingView) : Type 0 where
  pub start : c.start ≡ b.start
  pub journal : (more : List Stretch) × (c.journal ≡ b.journal ++ more)
  pub tells : TellsOn b c
  pub notes : c.mode.notes ≡ b.mode.notes
  pub limits : c.mode.limits ≡ b.mode.limits

stays : (b c : BookView RecordingView) → c ≡ record b { mode = c.mode } → c.mode.inputs ≡ b.mode.inputs → c.mode.edges ≡ b.mode.edges →
    c.mode.notes ≡ b.mode.notes → c.mode.limits ≡ b.mode.limits → StaysSo b c
stays b c same inputs edges notes limits =
    record {
      start = ap (λ (x : BookView RecordingView). x.start) same;
      journal = ([], ap (λ (x : BookView RecordingView). x.journal) same ∙ sym (append-nil b.journal));
      tells = tells_the_same b c (ap (λ (x : BookView RecordingView). x.machine) same) inputs edges (notes_kept b c notes);
      notes = notes;
      limits = limits;
    }

pub offered_so : {A E : Type 0} (b c : BookView RecordingView) (hart not_before : ℕ) (input : Input) (result : Result A E) → c ≡ record b { mode = c.mode } →
    OnOk result (IsOffered b.mode hart not_before input c.mode) → OnErr result (c ≡ b) → StaysSo b c
offered_so b c hart not_before input (Ok u) same ok err =
    stays b c same (ap (λ (m : RecordingView). m.inputs) ok.rest) (ap (λ (m : RecordingView). m.edges) ok.rest) (ap (λ (m : RecordingView). m.notes) ok.rest)
    (ap (λ (m : RecordingView). m.limits) ok.rest)
offered_so b c hart not_before input (Err e) same ok err =
    stays b c same (ap (λ (x : BookView RecordingView). x.mode.inputs) err) (ap (λ (x : BookView RecordingView). x.mode.edges) err)
    (ap (λ (x : BookView RecordingView). x.mode.notes) err) (ap (λ (x : BookView RecordingView). x.mode.limits) err)

-- a hart that tried to take a step is one of as many
pub harts_kept : {A E : Type 0} (b c : BookView RecordingView) (hart : ℕ) (result : Result A E) → OnOk result (HasStepped hart b c) →
    OnErr result (IsUnmoved hart b c) → length c.machine.harts ≡ length b.machine.harts
harts_kept b c hart (Ok u) stepped unmoved = stepped.continues.harts
harts_kept b c hart (Err e) stepped unmoved = ap (λ (x : BookView RecordingView). length x.machine.harts) unmoved.book

-- and what is noted is what was
pub notes_stay : {A E : Type 0} (b c : BookView RecordingView) (hart : ℕ) (result : Result A E) → OnOk result (HasStepped hart b c) →
    OnErr result (IsUnmoved hart b c) → c.mode.notes ≡ b.mode.notes
notes_stay b c hart (Ok u) stepped unmoved = stepped.notes
notes_stay b c hart (Err e) stepped unmoved = unmoved.notes
