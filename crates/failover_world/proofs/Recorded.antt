-- A primary's book and its log, as the theory has them.
use Rattle.std.proofs.Common.{◌≡◌, ℕ, ◌≤◌, List, map, Contains, sym, ap, subst, ◌∙◌, arith}
use Rattle.interleaving.specs.Log.{Edge, Log as EdgesAndInputs}
use Rattle.interleaving.specs.Stored.{system_of}
use Rattle.ft_types.specs.Counts.{count_at}
use Rattle.ft_types.specs.Guests.{GuestParts}
use Rattle.input_log.specs.declared.Input.{Input}
use Rattle.edge_log.specs.EdgeLog.{edge_as, row_of, edges_of}
use Rattle.edge_log.proofs.Logs.{in_row, of_row, to_edges, map_contains, contains_map}
use Rattle.rv32_hart.specs.Hardware.{hardware}
use Rattle.guest_image.specs.Image.{ImageContents}
use Rattle.hart_lease.specs.Runs.{counts_of}
use Rattle.page_book.specs.Books.{BookView}
use Rattle.book_modes.specs.Recordings.{RecordingView}
use Rattle.log_pieces.specs.Pieces.{Mark, SealedView, book_log}
use Rattle.hart_replay.specs.Images.{GuestTerm, boot_of}
use Rattle.hart_replay.specs.Primaries.{IsTermOfBook, IsSealedTo}
use Rattle.fenced_theory.specs.Machines.{IsRecorder}
use Rattle.book_recorder.specs.Sealings.{IsLogOf}
use Rattle.book_recorder.specs.TermBooks.{AreTheory, IsTermBook, ComesOf}
use Rattle.primary.specs.Primaries.{GoesOn}
use Rattle.primary.proofs.Pieces.{bounded}

-- a book that goes on does so in the theory
pub comes_of : (b c : BookView RecordingView) → GoesOn b c → ComesOf b c
comes_of b c on = record { start = on.start; journal = on.journal; tells = on.tells }

module _ (image : ImageContents) (are : AreTheory image.pages) (recorded : IsRecorder (system_of (hardware image.pages)) are.outs (boot_of image))
    (b : BookView RecordingView) (is : IsTermBook image.pages b) where
  -- the hart's log, as the theory's book has it
  counted : (hart : ℕ) → recorded.recorder.counts (are.book b is) hart ≡ counts_of b.machine hart
  counted hart = ap (λ f. f hart) (recorded.counts_are (are.book b is)) ∙ ap (λ (l : EdgesAndInputs (List Input)). l.end hart) (are.log b is)

  started : (hart : ℕ) → recorded.recorder.start (are.book b is) hart ≡ counts_of b.start hart
  started hart = ap (λ f. f hart) (recorded.start (are.book b is)) ∙ ap (λ (l : EdgesAndInputs (List Input)). l.start hart) (are.log b is)

  edges_are : recorded.recorder.edges (are.book b is) ≡ edges_of b.mode.edges
  edges_are = recorded.edges (are.book b is) ∙ ap (λ (l : EdgesAndInputs (List Input)). l.edges) (are.log b is)

  -- each hart's pieces end at most at its settled count
  pub within : (past : GuestTerm) (seals : SealedView) → IsTermOfBook b past → IsSealedTo past seals → (hart : ℕ) →
      count_at seals.reached hart ≤ counts_of b.machine hart
  within past seals of_book sealed hart =
      let from = recorded.recorder.forward (are.book b is) hart in
      let base = of_book.base hart in
      let start = started hart in
      let now = counted hart in
      let ends = ap (λ (m : Mark). m.count) (sealed hart) in
      let below : count_at past.opening.base hart ≤ counts_of b.machine hart = omega (arith, from, base, start, now) in
      let bound =
      bounded (count_at past.opening.base hart) (counts_of b.machine hart) (past.pieces hart) below
      (λ place x at. (of_book.pieces.tell hart place x at).settled) in
      subst (λ n. n ≤ counts_of b.machine hart) (sym ends) bound

  to_theory : (hart : ℕ) (e : Edge) → Contains (map edge_as (row_of b.mode.edges hart)) e → Contains (edges_of b.mode.edges) e × (e.hart ≡ hart)
  to_theory hart e has =
      let (x, there, same) = map_contains edge_as (row_of b.mode.edges hart) e has in (
        subst (Contains (edges_of b.mode.edges)) same (to_edges b.mode.edges.rows hart x there),
        sym (ap (λ (e : Edge). e.hart) same) ∙ (of_row b.mode.edges.start b.mode.edges.rows is.primary.log hart x there).own,
      )

  of_theory : (hart : ℕ) (e : Edge) → Contains (edges_of b.mode.edges) e → e.hart ≡ hart → Contains (map edge_as (row_of b.mode.edges hart)) e
  of_theory hart e has own =
      let (x, there, same) = in_row b.mode.edges.start b.mode.edges.rows is.primary.log e has in
      subst (Contains (map edge_as (row_of b.mode.edges hart))) same
      (contains_map edge_as (row_of b.mode.edges hart) x (subst (λ h. Contains (row_of b.mode.edges h) x) own there))

  pub is_log : (guest : GuestParts) (term hart : ℕ) → IsLogOf recorded.recorder (are.book b is) (book_log guest term b hart)
  is_log guest term hart =
      record {
        settled = let now = counted hart in omega (arith, now);
        edges = λ e. (
          (λ has. let both = to_theory hart e has in (subst (λ l. Contains l e) (sym edges_are) both.0, both.1)),
          (λ both. of_theory hart e (subst (λ l. Contains l e) edges_are both.0) both.1),
        );
      }
