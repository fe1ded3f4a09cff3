-- What was cut is settled.
use Rattle.std.proofs.Common.{◌≡◌, ◌<◌, ◌≤◌, ⊎_elim, ℕ, List, [], ◌∷◌, slice_index_or, ap, arith}
use Rattle.ft_types.specs.Guests.{GuestParts}
use Rattle.ft_types.specs.Counts.{count_at}
use Rattle.fragment_codec.specs.declared.frame.Frame.{Frame}
use Rattle.fragment_codec.specs.Rules.{FragmentParts}
use Rattle.log_pieces.specs.Pieces.{HartLog, IsFull, Mark, SealedView, ArePieces, IsCut, mark_behind, mark_of, book_log}
use Rattle.page_book.specs.Books.{BookView}
use Rattle.book_modes.specs.Recordings.{RecordingView}
use Rattle.hart_lease.specs.Runs.{counts_of}

pieces_within : (log : HartLog) (old : Mark) (pieces : List FragmentParts) (new : Mark) → old.count ≤ log.settled → ArePieces log old pieces new →
    new.count ≤ log.settled
pieces_within log old [] new le at = (let e : new.count ≡ old.count = ap (λ (m : Mark). m.count) at in omega (arith, e))
pieces_within log old (piece ∷ pieces) new le at =
    let to : piece.to ≤ log.settled = ⊎_elim (λ (e : piece.to ≡ log.settled). omega (arith, e))
    (λ (t : (piece.to < log.settled) × IsFull log.facts piece.from piece.to). (let l : piece.to < log.settled = t.0 in omega (arith, l)))
    at.0.far in
    pieces_within log (mark_behind piece) pieces new to at.1

pub cut_within : (guest : GuestParts) (term : ℕ) (book : BookView RecordingView) (old : SealedView) (frames : List Frame) (new : SealedView) →
    ((hart : ℕ) → count_at old.reached hart ≤ counts_of book.machine hart) → IsCut (book_log guest term book) guest.harts old frames new →
    (hart : ℕ) → count_at new.reached hart ≤ counts_of book.machine hart
cut_within guest term book old frames new within cut hart =
    pieces_within (book_log guest term book hart) (mark_of old hart) (slice_index_or cut.pieces hart []) (mark_of new hart) (within hart) (cut.each hart).row
