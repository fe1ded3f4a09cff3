-- Pieces of a primary's book go out.
use Rattle.std.proofs.Common.{◌≡◌, ℕ, List, [], ◌∷◌, ◌++◌, length, slice_index_or, Some, refl, sym, ap, subst, ◌∙◌}
use Rattle.std.proofs.lemmas.List.Elements.{Contains-append_left}
use Rattle.interleaving.specs.Lists.{put}
use Rattle.interleaving.proofs.Put.{put_same}
use Rattle.ft_types.specs.Counts.{count_at}
use Rattle.ft_types.specs.Guests.{GuestParts}
use Rattle.guest_image.specs.Image.{guest_of}
use Rattle.input_log.specs.Notes.{notes_of}
use Rattle.input_log.proofs.Notings.{notes_same}
use Rattle.hart_lease.specs.Runs.{counts_of}
use Rattle.fragment_codec.specs.declared.frame.Frame.{Frame}
use Rattle.fragment_codec.specs.declared.frame.Frame.TheVariants.{Log}
use Rattle.fragment_codec.specs.Rules.{FragmentParts}
use Rattle.log_pieces.specs.Pieces.{HartLog, Mark, SealedView, IsCut, IsPiece, book_log}
use Rattle.log_join.specs.Families.{Past, end_of}
use Rattle.hart_replay.specs.Images.{IsHistoryOf}
use Rattle.hart_replay.specs.Primaries.{IsTermOfBook}
use Rattle.hart_replay.proofs.failovers.Longer.{slice_left}
use Rattle.book_recorder.proofs.Cutting.{piece_is_cut, piece_has_notes}
use Rattle.fenced_theory.specs.Notes.{HasNotes}
use Rattle.fenced_theory.specs.Worlds as theory
use Rattle.primary.proofs.Put.{put_own, put_put}
use Rattle.primary.proofs.Pieces.{is_fragment_at, cut_of_book, cut_sealed}
use Rattle.primary.proofs.Sending.{cut_holds}
use Rattle.leading.specs.Leaders.{LeaderView}
use Rattle.failover_world.specs.machinery.Tied.{TermBook, Books, retold, history}
use Rattle.failover_world.proofs.Recorded.{is_log}
use Rattle.failover_world.proofs.Renoted.{comes_of}
use Rattle.process_world.specs.Worlds.{ProcessWorld, Leads}
use Rattle.process_world.specs.Happenings.{led_by}
use Rattle.process_world.specs.machinery.Tied.{IsIn, IsTied, past_of, told_by}
use Rattle.process_world.proofs.Seats.{renewed, ComesIn, told}
use Rattle.process_world.proofs.Terms.{own, there_now, terms_with, world_with, retermed, next, next_history, next_within}

module _ (w : ProcessWorld) (is : IsTied w) (n : ℕ) (l : LeaderView) (at : Leads w n l) where
  -- the primary's term in the family
  abbrev here : IsIn is.terms l.primary
  here = (own w is n l at).within

  -- the log of each hart
  abbrev own_log : ℕ → HartLog
  own_log = book_log (guest_of w.image) l.primary.opening.term l.primary.book

  -- the primary's term with these pieces
  abbrev past_with : (ℕ → List FragmentParts) → Past (TermBook w.image.pages)
  past_with f = past_of l.primary f here.is_book

  -- the same in the theory
  abbrev in_theory : (ℕ → List FragmentParts) → Past (Books w.image.pages is.are_theory)
  in_theory f = retold (told w is) (past_with f)

  -- the theory's world with these pieces of the term, and these frames, comes
  abbrev ComesWith : (ℕ → List FragmentParts) → List Frame → Type 0
  ComesWith f sent = ComesIn w is (world_with w is n l at (past_with f) sent is.world.released is.world.notes)

  -- a piece has the term's notes of its range
  its_notes : (hart : ℕ) (mark : Mark) (x : FragmentParts) → IsPiece (own_log hart) mark x → HasNotes (is.world.notes l.primary.opening.term hart) x
  its_notes hart mark x piece =
      subst (λ (notes : List (ℕ × ℕ)). HasNotes notes x) (sym ((own w is n l at).noted hart)) (piece_has_notes (own_log hart) mark x piece)

  -- one piece goes out
  one_piece : (f : ℕ → List FragmentParts) (sent : List Frame) (hart : ℕ) (mark : Mark) (x : FragmentParts) → mark.place ≡ length (f hart) →
      mark.count ≡ end_of (count_at l.primary.opening.base hart) (f hart) → IsPiece (own_log hart) mark x → ComesWith f sent →
      ComesWith (put f hart (f hart ++ x ∷ [])) (sent ++ Log x ∷ [])
  one_piece f sent hart mark x place count piece comes =
      subst (λ t. ComesIn w is (record is.world { terms = t; sent = sent ++ Log x ∷ [] }))
      (put_put is.world.terms l.primary.opening.term (Some (in_theory f)) (Some (in_theory (put f hart (f hart ++ x ∷ [])))))
      (theory.Then comes
      (theory.Seal l.primary.opening.term (in_theory f) hart x
      (put_same is.world.terms l.primary.opening.term l.primary.opening.term (Some (in_theory f)) refl)
      (is_fragment_at (guest_of w.image) l.primary.opening.term l.primary.book hart (length (f hart)) mark x piece place)
      (piece.begins ∙ count)
      (piece_is_cut is.is_recorder.recorder (is.are_theory.book l.primary.book here.is_book) (own_log hart) mark x
      (is_log w.image is.are_theory is.is_recorder l.primary.book here.is_book (guest_of w.image) l.primary.opening.term hart) piece)
      (its_notes hart mark x piece)))

  -- its pieces, as they are
  as_it_was : ComesWith here.pieces is.world.sent
  as_it_was =
      subst (λ t. ComesIn w is (record is.world { terms = t }))
      (sym (put_own is.world.terms l.primary.opening.term (Some (in_theory here.pieces)) (there_now w is n l at))) is.comes

  module _ (new : SealedView) (frames : List Frame) (cut : IsCut own_log w.image.harts l.primary.sealed frames new) where
    -- the pieces, with those that were cut
    abbrev grown : ℕ → List FragmentParts
    grown hart = here.pieces hart ++ slice_index_or cut.pieces hart []

    -- the world with these comes
    comes_grown : ComesWith grown (is.world.sent ++ frames)
    comes_grown =
        cut_holds own_log (count_at l.primary.opening.base) ComesWith one_piece here.pieces l.primary.sealed new here.sealed w.image.harts is.world.sent frames
        cut as_it_was

    -- they are the book's
    of_book : IsTermOfBook l.primary.book (told_by (next w is n l at l.primary.book new) grown)
    of_book =
        cut_of_book (guest_of w.image) l.primary.opening.term w.image.harts l.primary.book (told_by l.primary here.pieces) l.primary.sealed new frames
        here.of_book here.sealed cut

    -- so the terms are a history
    history_grown : IsHistoryOf w.image (history (terms_with w is n l at (past_with grown)))
    history_grown =
        next_history w is n l at l.primary.book new grown here.is_book of_book
        (comes_of l.primary.book l.primary.book
        (record { book = refl; mode = refl; notes = λ hart. notes_same (notes_of l.primary.book.mode.notes hart) (counts_of l.primary.book.machine hart) }))
        (λ hart place piece there. slice_left (here.pieces hart) (slice_index_or cut.pieces hart []) place piece there)

    -- which has the primary's term
    within : IsIn (terms_with w is n l at (past_with grown)) (next w is n l at l.primary.book new)
    within =
        next_within w is n l at l.primary.book new grown here.is_book of_book
        (cut_sealed (guest_of w.image) l.primary.opening.term w.image.harts l.primary.book (told_by l.primary here.pieces) l.primary.sealed new frames
        here.of_book here.sealed cut)

    -- nothing but how far its log is cut is another
    sealed : IsTied (record w { led = led_by w n (record l { primary = record l.primary { sealed = new } }); frames = w.frames ++ frames })
    sealed =
        let after : LeaderView = record l { primary = record l.primary { sealed = new } } in
        let v = world_with w is n l at (past_with grown) (is.world.sent ++ frames) is.world.released is.world.notes in
        retermed w is n l at after (past_with grown) (w.frames ++ frames) (is.world.sent ++ frames) is.world.released is.world.notes refl refl
        comes_grown history_grown (ap (λ fs. fs ++ frames) is.sent) (λ f has. Contains-append_left is.world.sent frames f has) (λ r has. has)
        (λ u hart other. refl)
        (renewed is.world v is.terms (terms_with w is n l at (past_with grown)) (guest_of w.image) w.keepers w.need l new l.gate.acked l.queues
        (own w is n l at) within (own w is n l at).acked (λ r has. has) (λ hart. refl) (λ hart. refl))

  -- the log that is cut is of the world's guest
  own_cut : (new : SealedView) (frames : List Frame) →
      IsCut (book_log l.primary.opening.guest l.primary.opening.term l.primary.book) l.primary.opening.guest.harts l.primary.sealed frames new →
      IsCut own_log w.image.harts l.primary.sealed frames new
  own_cut new frames cut =
      subst (λ (g : GuestParts). IsCut (book_log g l.primary.opening.term l.primary.book) g.harts l.primary.sealed frames new)
      (own w is n l at).of_guest cut

-- pieces of a primary's log go out
pub seals : (w : ProcessWorld) (is : IsTied w) (n : ℕ) (old new : LeaderView) (frames : List Frame) → Leads w n old →
    IsCut (book_log old.primary.opening.guest old.primary.opening.term old.primary.book) old.primary.opening.guest.harts old.primary.sealed frames
    new.primary.sealed → new ≡ record old { primary = record old.primary { sealed = new.primary.sealed } } →
    IsTied (record w { led = led_by w n new; frames = w.frames ++ frames })
seals w is n old new frames at cut rest =
    subst (λ (l : LeaderView). IsTied (record w { led = led_by w n l; frames = w.frames ++ frames })) (sym rest)
    (sealed w is n old at new.primary.sealed frames (own_cut w is n old at new.primary.sealed frames cut))
