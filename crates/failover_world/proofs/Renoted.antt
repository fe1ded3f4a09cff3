-- The world, where nothing of the primary's book is another but its notes.
use Rattle.std.proofs.Common.{◌≡◌, ◌⊎◌, inl, inr, ℕ, ◌+◌, ◌<◌, ◌≤◌, List, [], append-nil, length, min, true, Some, sym, ap, subst, ◌∙◌}
use Rattle.ft_types.specs.Counts.{count_at}
use Rattle.ft_types.specs.declared.names.TheConstants.{HART_LIMIT}
use Rattle.ft_types.specs.declared.output.Output.{Output}
use Rattle.guest_image.specs.Machine.{MachineState}
use Rattle.input_log.specs.Notes.{notes_of, noted, NotesMore}
use Rattle.input_log.proofs.Notings.{notes_same, noted_more}
use Rattle.hart_lease.specs.Runs.{counts_of}
use Rattle.page_book.specs.Books.{BookView}
use Rattle.page_book.specs.Tellings.{OnlyNotes}
use Rattle.page_book.proofs.Tellings.{only_room, only_notes_tell_on}
use Rattle.book_modes.specs.Recordings.{RecordingView, HasRoomed}
use Rattle.hart_replay.specs.Primaries.{IsPrimary}
use Rattle.output_gate.specs.Gates.{mark_at}
use Rattle.failover_world.specs.machinery.Stopping as theory
use Rattle.fenced_theory.proofs.Stores.{see}
use Rattle.book_recorder.specs.TermBooks.{ComesOf}
use Rattle.failover_world.specs.Worlds.{WorldView}
use Rattle.primary.specs.Gating.{AreOffered}
use Rattle.primary.specs.Noting.{last_of, noted_to, NotesAll}
use Rattle.failover_world.specs.machinery.Tied.{AreParts, IsWorld}
use Rattle.failover_world.proofs.Parts.{with_new_book}
use Rattle.failover_world.proofs.Ties.{with_book, goes_on}
use Rattle.failover_world.proofs.Noting.{notes_out}

abbrev with_mode : BookView RecordingView → RecordingView → BookView RecordingView
with_mode b mode = record b { mode = mode }

pub comes_of : (b c : BookView RecordingView) → OnlyNotes b c → ComesOf b c
comes_of b c is =
    record {
      start = ap (λ (x : BookView RecordingView). x.start) is.book;
      journal = ([], ap (λ (x : BookView RecordingView). x.journal) is.book ∙ sym (append-nil b.journal));
      tells = only_notes_tell_on b c is;
    }

pub parts_on : (v : WorldView) → AreParts v → (c : BookView RecordingView) → OnlyNotes v.primary.book c → AreParts (with_book v c)
parts_on v parts c is =
    let machine : c.machine ≡ v.primary.book.machine = ap (λ (x : BookView RecordingView). x.machine) is.book in
    with_new_book v parts c (ap (λ (x : BookView RecordingView). x.leases) is.book ∙ parts.idle)
    (λ hart.
    subst (λ m. counts_of m hart ≤ count_at c.mode.limits hart) (sym machine)
    (subst (λ limits. counts_of v.primary.book.machine hart ≤ count_at limits hart) (sym (ap (λ (m : RecordingView). m.limits) is.mode))
    (parts.within hart)))
    (ap (λ (m : MachineState). length m.harts) machine) (subst (AreOffered v.gate.gate) (sym machine) parts.offered)

-- ---- room

-- the world, with room for notes in the primary's book
pub roomed_world : (v : WorldView) → IsWorld v → (c : BookView RecordingView) → v.runs ≡ true → HasRoomed v.primary.book.mode c.mode →
    c ≡ record v.primary.book { mode = c.mode } → IsPrimary c → IsWorld (with_book v c)
roomed_world v is c runs roomed book primary =
    let on = only_room v.primary.book c roomed book in
    record { parts = parts_on v is.parts c on; tied = goes_on v is.tied c runs (comes_of v.primary.book c on) primary roomed.same }

-- ---- notes

pub noted_on : (given : List Output) (b c : BookView RecordingView) → NotesAll given b c → OnlyNotes b c
noted_on given b c all =
    let mode : c.mode ≡ record b.mode { notes = c.mode.notes } = ap (λ (x : BookView RecordingView). x.mode) all.rest in
    record {
      book = all.rest ∙ ap (with_mode b) (sym mode);
      mode = mode;
      notes = λ hart.
          subst (NotesMore (notes_of b.mode.notes hart) (counts_of b.machine hart)) (sym (all.notes hart))
          (elim (see (last_of hart given)) [
            | inl none ↦
                subst (λ last. NotesMore (notes_of b.mode.notes hart) (counts_of b.machine hart) (noted_to last (counts_of b.machine hart) (notes_of b.mode.notes hart)))
                (sym none) (notes_same (notes_of b.mode.notes hart) (counts_of b.machine hart))
            | inr (last, some) ↦
                subst (λ last. NotesMore (notes_of b.mode.notes hart) (counts_of b.machine hart) (noted_to last (counts_of b.machine hart) (notes_of b.mode.notes hart)))
                (sym some) (noted_more (notes_of b.mode.notes hart) (counts_of b.machine hart) (min (last + 1) (counts_of b.machine hart)))
          ]);
    }

-- the world, whose primary has noted what went out
pub noted_in_world : (v : WorldView) → (is : IsWorld v) → (c : BookView RecordingView) → v.runs ≡ true → (given : List Output) →
    NotesAll given v.primary.book c → IsPrimary c →
    ((hart last : ℕ) → last_of hart given ≡ Some last → (k : ℕ) → k < last + 1 → (k < mark_at v.gate.gate hart) ⊎ theory.WentOut is.tied.out hart k) →
    ((hart last : ℕ) → last_of hart given ≡ Some last → hart < HART_LIMIT) → IsWorld (with_book v c)
noted_in_world v is c runs given all primary out few =
    let on = noted_on given v.primary.book c all in
    record {
      parts = parts_on v is.parts c on;
      tied = notes_out v is.tied c runs (comes_of v.primary.book c on) primary given all out few;
    }
