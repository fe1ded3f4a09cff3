-- The world stays one that comes in the theory: pieces go out.
use Rattle.std.proofs.Common.{◌≡◌, inl, inr, ℕ, ◌≤◌, true, List, [], ◌∷◌, ◌++◌, length, slice_index_or, Contains, Some, None, refl, sym, ap, subst, ◌∙◌}
use Rattle.std.proofs.lemmas.List.Elements.{Contains-append_left}
use Rattle.interleaving.specs.Lists.{put}
use Rattle.interleaving.proofs.Put.{same_or_not, put_same, put_other}
use Rattle.ft_types.specs.Counts.{count_at}
use Rattle.ft_types.specs.Guests.{GuestParts}
use Rattle.guest_image.specs.Image.{guest_of}
use Rattle.hart_lease.specs.Runs.{counts_of}
use Rattle.fragment_codec.specs.declared.frame.Frame.{Frame}
use Rattle.fragment_codec.specs.declared.frame.Frame.TheVariants.{Log, Opening}
use Rattle.fragment_codec.specs.Rules.{FragmentParts}
use Rattle.log_pieces.specs.Pieces.{Mark, SealedView, IsCut, IsPiece, book_log}
use Rattle.log_join.specs.Families.{Past, Family, end_of}
use Rattle.failover_world.specs.machinery.Stopping as theory
use Rattle.fenced_theory.specs.Notes.{HasNotes}
use Rattle.book_recorder.proofs.Cutting.{piece_is_cut, piece_has_notes}
use Rattle.go_live.specs.Histories.{MakesLonger}
use Rattle.primary.specs.declared.granted.Primary.{Primary}
use Rattle.primary.proofs.Rows.{same_some}
use Rattle.primary.proofs.Put.{put_own, put_put}
use Rattle.primary.proofs.Pieces.{is_fragment_at, cut_of_book, cut_sealed}
use Rattle.primary.proofs.Sending.{cut_holds}
use Rattle.failover_world.specs.Worlds.{WorldView, term_of}
use Rattle.failover_world.specs.machinery.Tied.{TermBook, Books, retold, retold_in, history, told_as, theory_world, quorum_of, live_book, live_term, AreParts, IsTied, IsWorld}
use Rattle.failover_world.proofs.Before.{still_before, no_other_still}
use Rattle.failover_world.proofs.Guests.{own_guest}
use Rattle.failover_world.proofs.Places.{retold_put}
use Rattle.failover_world.proofs.Recorded as recorded
use Rattle.failover_world.proofs.Recorded.{is_log}
use Rattle.failover_world.proofs.Stopping.{seals}

module _ (v : WorldView) (is : IsTied v) where
  abbrev past_with : (ℕ → List FragmentParts) → Past (Books v.image.pages is.are_theory)
  past_with f = retold (told_as v.image.pages is.are_theory) (live_book v f is.is_book)

  -- the theory's world with these pieces of the live term, and these frames
  abbrev world_with : (ℕ → List FragmentParts) → List Frame → theory.World (Books v.image.pages is.are_theory)
  world_with f sent =
      record (theory_world v.image.pages is.are_theory (guest_of v.image) v is.terms is.notes is.marks is.out) {
        terms = put (λ u. retold_in (told_as v.image.pages is.are_theory) (is.terms u)) (term_of v) (Some (past_with f));
        sent = sent;
      }

  abbrev ComesWith : (ℕ → List FragmentParts) → List Frame → Type 0
  ComesWith f sent = theory.Comes is.is_recorder.recorder (guest_of v.image) (quorum_of v) (world_with f sent)

  -- each hart's pieces end at most at its settled count
  pub within : (hart : ℕ) → count_at v.primary.sealed.reached hart ≤ counts_of v.primary.book.machine hart
  within =
      recorded.within v.image is.are_theory is.is_recorder v.primary.book is.is_book (live_term v is.pieces) v.primary.sealed is.of_book is.sealed

  module _ (runs : v.runs ≡ true) (new : SealedView) where
    -- one piece goes out
    one_piece : (f : ℕ → List FragmentParts) (sent : List Frame) (hart : ℕ) (mark : Mark) (x : FragmentParts) → mark.place ≡ length (f hart) →
        mark.count ≡ end_of (count_at v.primary.opening.base hart) (f hart) → IsPiece (book_log (guest_of v.image) (term_of v) v.primary.book hart) mark x →
        ComesWith f sent → ComesWith (put f hart (f hart ++ x ∷ [])) (sent ++ Log x ∷ [])
    one_piece f sent hart mark x place count piece comes =
        subst
        (λ t. theory.Comes is.is_recorder.recorder (guest_of v.image) (quorum_of v) (record (world_with f (sent ++ Log x ∷ [])) { terms = t }))
        (put_put (λ u. retold_in (told_as v.image.pages is.are_theory) (is.terms u)) (term_of v) (Some (past_with f))
        (Some (past_with (put f hart (f hart ++ x ∷ [])))))
        (seals is.is_recorder.recorder (guest_of v.image) (quorum_of v) comes (past_with f) hart x
        (put_same (λ u. retold_in (told_as v.image.pages is.are_theory) (is.terms u)) (term_of v) (term_of v) (Some (past_with f)) refl)
        (is_fragment_at (guest_of v.image) (term_of v) v.primary.book hart (length (f hart)) mark x piece place)
        (piece.begins ∙ count)
        (piece_is_cut is.is_recorder.recorder (is.are_theory.book v.primary.book is.is_book) (book_log (guest_of v.image) (term_of v) v.primary.book hart)
        mark x (is_log v.image is.are_theory is.is_recorder v.primary.book is.is_book (guest_of v.image) (term_of v) hart) piece)
        (subst (λ (notes : List (ℕ × ℕ)). HasNotes notes x) (sym (is.noted hart))
        (piece_has_notes (book_log (guest_of v.image) (term_of v) v.primary.book hart) mark x piece)))

    module _ (frames : List Frame) (cut : IsCut (book_log (guest_of v.image) (term_of v) v.primary.book) v.image.harts v.primary.sealed frames new) where
      abbrev grown : ℕ → List FragmentParts
      grown hart = is.pieces hart ++ slice_index_or cut.pieces hart []

      as_it_was : ComesWith is.pieces v.sent
      as_it_was =
          subst
          (λ t. theory.Comes is.is_recorder.recorder (guest_of v.image) (quorum_of v)
          (record (theory_world v.image.pages is.are_theory (guest_of v.image) v is.terms is.notes is.marks is.out) { terms = t }))
          (sym
          (put_own (λ u. retold_in (told_as v.image.pages is.are_theory) (is.terms u)) (term_of v) (Some (past_with is.pieces))
          (ap (retold_in (told_as v.image.pages is.are_theory)) is.there)))
          is.comes

      comes_grown : ComesWith grown (v.sent ++ frames)
      comes_grown =
          cut_holds (book_log (guest_of v.image) (term_of v) v.primary.book) (count_at v.primary.opening.base) ComesWith one_piece is.pieces v.primary.sealed new
          is.sealed v.image.harts v.sent frames cut as_it_was

      abbrev new_terms : Family (TermBook v.image.pages)
      new_terms = put is.terms (term_of v) (Some (live_book v grown is.is_book))

      opened : (u : ℕ) (p : Past (TermBook v.image.pages)) → new_terms u ≡ Some p → Contains v.sent (Opening p.opening)
      opened u p at =
          let now : Past (TermBook v.image.pages) = live_book v grown is.is_book in
          elim (same_or_not (term_of v) u) [
            | inl same ↦
                let was = is.opened (term_of v) (live_book v is.pieces is.is_book) is.there in
                let e : Some now ≡ Some p = sym (put_same is.terms (term_of v) u (Some now) same) ∙ at in
                let o : v.primary.opening ≡ p.opening = ap (λ (q : Past (TermBook v.image.pages)). q.opening) (same_some now p e) in
                subst (λ o. Contains v.sent (Opening o)) o was
            | inr other ↦ is.opened u p (sym (put_other is.terms (term_of v) u (Some now) other) ∙ at)
          ]

      -- pieces of the book went out
      pub sealed : IsTied (record v { primary = record v.primary { sealed = new }; sent = v.sent ++ frames })
      sealed =
          record {
            are_theory = is.are_theory;
            is_recorder = is.is_recorder;
            terms = new_terms;
            out = is.out;
            comes =
                subst
                (λ t. theory.Comes is.is_recorder.recorder (guest_of v.image) (quorum_of v)
                (record (theory_world v.image.pages is.are_theory (guest_of v.image) v is.terms is.notes is.marks is.out) { terms = t; sent = v.sent ++ frames }))
                (sym (retold_put (told_as v.image.pages is.are_theory) is.terms (term_of v) (Some (live_book v grown is.is_book))))
                comes_grown;
            notes = is.notes;
            marks = is.marks;
            went_out = is.went_out;
            no_more = is.no_more;
            gone_out = is.gone_out;
            noted = is.noted;
            noted_before = is.noted_before;
            marked = is.marked;
            pieces = grown;
            is_book = is.is_book;
            there = put_same is.terms (term_of v) (term_of v) (Some (live_book v grown is.is_book)) refl;
            of_book =
                cut_of_book (guest_of v.image) (term_of v) v.image.harts v.primary.book (live_term v is.pieces) v.primary.sealed new frames is.of_book
                is.sealed cut;
            sealed =
                cut_sealed (guest_of v.image) (term_of v) v.image.harts v.primary.book (live_term v is.pieces) v.primary.sealed new frames is.of_book
                is.sealed cut;
            opened = λ u p at. Contains-append_left v.sent frames (Opening p.opening) (opened u p at);
            longer =
                subst (λ (t : Family (TermBook v.image.pages)). MakesLonger v.image (history t) (term_of v) v.primary.book.start v.primary.opening)
                (sym (put_put is.terms (term_of v) (Some (live_book v grown is.is_book)) None))
                is.longer;
            before = λ p has.
                let b = is.before p has in still_before is.terms (term_of v) (term_of v) (live_book v grown is.is_book) p b b.earlier;
            no_other = no_other_still is.terms (term_of v) v.stopped (live_book v grown is.is_book) is.no_other;
          }

-- and the parts of the world still fit together
pub sealed_parts : (v : WorldView) (is : AreParts v) (sent : List Frame) (new : SealedView) → length new.reached ≡ length v.primary.sealed.reached →
    AreParts (record v { primary = record v.primary { sealed = new }; sent = sent })
sealed_parts v is sent new same =
    record {
      guest = is.guest;
      quorum = is.quorum;
      stores = is.stores;
      idle = is.idle;
      within = is.within;
      harts = is.harts;
      reached = same ∙ is.reached;
      gate_term = is.gate_term;
      gate_keepers = is.gate_keepers;
      gate_need = is.gate_need;
      gate_harts = is.gate_harts;
      acked = is.acked;
      offered = is.offered;
    }

-- the world in which they went out
pub own_cut : (v : WorldView) → IsWorld v → (new : SealedView) (frames : List Frame) →
    IsCut (book_log v.primary.opening.guest v.primary.opening.term v.primary.book) v.primary.opening.guest.harts v.primary.sealed frames new →
    IsCut (book_log (guest_of v.image) (term_of v) v.primary.book) v.image.harts v.primary.sealed frames new
own_cut v is new frames cut =
    subst (λ (g : GuestParts). IsCut (book_log g (term_of v) v.primary.book) g.harts v.primary.sealed frames new) (own_guest v is.tied is.parts.guest) cut

pub sealed_world : (v : WorldView) → IsWorld v → v.runs ≡ true → (p : Primary) (sent frames : List Frame) →
    IsCut (book_log v.primary.opening.guest v.primary.opening.term v.primary.book) v.primary.opening.guest.harts v.primary.sealed frames p.sealed →
    p ≡ record v.primary { sealed = p.sealed } → sent ≡ v.sent ++ frames → IsWorld (record v { primary = p; sent = sent })
sealed_world v is runs p sent frames cut rest more =
    let own = own_cut v is p.sealed frames cut in
    subst (λ (q : Primary). IsWorld (record v { primary = q; sent = sent })) (sym rest)
    (subst (λ (fs : List Frame). IsWorld (record v { primary = record v.primary { sealed = p.sealed }; sent = fs })) (sym more)
    (record {
      parts = sealed_parts v is.parts (v.sent ++ frames) p.sealed own.same_harts;
      tied = sealed v is.tied runs p.sealed frames own;
    }))
