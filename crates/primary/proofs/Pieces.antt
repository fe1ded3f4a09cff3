-- Pieces of a primary's log, behind those that were cut before.
use Rattle.std.proofs.Common.{◌≡◌, ◌⊎◌, inl, inr, ℕ, zero, suc, ◌+◌, ◌≤◌, List, [], ◌∷◌, ◌++◌, length, slice_get, slice_index_or, Some, refl, sym, ap, subst, ◌∙◌}
use Rattle.std.proofs.lemmas.List.{append_assoc, append-nil, length-append}
use Rattle.ft_types.specs.Counts.{count_at}
use Rattle.ft_types.specs.Guests.{GuestParts}
use Rattle.page_book.specs.Books.{BookView}
use Rattle.book_modes.specs.Recordings.{RecordingView}
use Rattle.fragment_codec.specs.declared.frame.Frame.{Frame}
use Rattle.fragment_codec.specs.declared.types.Key.{Key}
use Rattle.fragment_codec.specs.Rules.{FragmentParts}
use Rattle.log_pieces.specs.Pieces.{Mark, SealedView, IsCut, IsPiece, ArePieces, book_log, mark_of, mark_behind}
use Rattle.log_join.specs.Families.{NoGap, end_of}
use Rattle.log_join.specs.Stores.{IsFragmentOf}
use Rattle.hart_replay.specs.Images.{GuestTerm}
use Rattle.hart_replay.specs.Primaries.{IsPieceOf, IsTermOfBook, IsSealedTo, with_pieces}
use Rattle.hart_replay.proofs.honesty.Primaries.{is_piece}
use Rattle.primary.proofs.Rows.{same_some}

-- pieces that end at most at a bound
pub bounded : (from bound : ℕ) (xs : List FragmentParts) → from ≤ bound → ((place : ℕ) (x : FragmentParts) → slice_get xs place ≡ Some x → x.to ≤ bound) →
    end_of from xs ≤ bound
bounded from bound [] le all = le
bounded from bound (x ∷ xs) le all = bounded x.to bound xs (all 0 x refl) (λ place y at. all (suc place) y at)

-- the piece has its place in the term
pub is_fragment_at : (guest : GuestParts) (term : ℕ) (book : BookView RecordingView) (hart place : ℕ) (mark : Mark) (x : FragmentParts) →
    IsPiece (book_log guest term book hart) mark x → mark.place ≡ place → IsFragmentOf guest (record { term = term; hart = hart; place = place }) x
is_fragment_at guest term book hart place mark x piece same =
    record { rules = piece.rules; same_guest = piece.same_guest; same_key = piece.key ∙ (λ i. record { term = term; hart = hart; place = same i }) }

-- ---- pieces of one hart's log, up to a mark

no_gap_more : (from : ℕ) (xs : List FragmentParts) (x : FragmentParts) → NoGap from xs → x.from ≡ end_of from xs → NoGap from (xs ++ x ∷ [])
no_gap_more from [] x none begins = (begins, tt)
no_gap_more from (y ∷ xs) x (first, rest) begins = (first, no_gap_more y.to xs x rest begins)

pub end_more : (from : ℕ) (xs : List FragmentParts) (x : FragmentParts) → end_of from (xs ++ x ∷ []) ≡ x.to
end_more from [] x = refl
end_more from (y ∷ xs) x = end_more y.to xs x

old_or_last : {A : Type 0} (xs : List A) (x : A) (k : ℕ) (y : A) → slice_get (xs ++ x ∷ []) k ≡ Some y → (slice_get xs k ≡ Some y) ⊎ (x ≡ y)
old_or_last [] x zero y at = inr (same_some x y at)
old_or_last [] x (suc k) y at = absurd cc
old_or_last (z ∷ xs) x zero y at = inl at
old_or_last (z ∷ xs) x (suc k) y at = old_or_last xs x k y at

module _ (book : BookView RecordingView) (hart from : ℕ) where
  -- the book's pieces, without a gap, and their mark
  record StandAt (xs : List FragmentParts) (mark : Mark) : Type 0 where
    pub no_gap : NoGap from xs
    pub tell : (place : ℕ) (x : FragmentParts) → slice_get xs place ≡ Some x → IsPieceOf book hart x
    pub at_mark : mark ≡ record { place = length xs; count = end_of from xs }

  one_more : (guest : GuestParts) (term : ℕ) (xs : List FragmentParts) (x : FragmentParts) (mark : Mark) → StandAt xs mark →
      IsPiece (book_log guest term book hart) mark x → StandAt (xs ++ x ∷ []) (mark_behind x)
  one_more guest term xs x mark stand piece =
      let own : x.key.hart ≡ hart = ap (λ (k : Key). k.hart) piece.key in
      let place : x.key.place + 1 ≡ length (xs ++ x ∷ []) =
      ap (λ (k : Key). k.place + 1) piece.key ∙ ap (λ (m : Mark). m.place + 1) stand.at_mark ∙ sym (length-append xs (x ∷ [])) in
      record {
        no_gap = no_gap_more from xs x stand.no_gap (piece.begins ∙ ap (λ (m : Mark). m.count) stand.at_mark);
        tell = λ place y at. elim (old_or_last xs x place y at) [
          | inl before ↦ stand.tell place y before
          | inr same ↦ subst (IsPieceOf book hart) same (subst (λ h. IsPieceOf book h x) own (is_piece guest term book hart mark x piece))
        ];
        at_mark = λ i. record { place = place i; count = sym (end_more from xs x) i };
      }

  more_stand : (guest : GuestParts) (term : ℕ) (xs more : List FragmentParts) (old new : Mark) → StandAt xs old →
      ArePieces (book_log guest term book hart) old more new → StandAt (xs ++ more) new
  more_stand guest term xs [] old new stand same =
      subst (λ ys. StandAt ys new) (sym (append-nil xs)) (subst (StandAt xs) (sym same) stand)
  more_stand guest term xs (x ∷ more) old new stand (piece, rest) =
      subst (λ ys. StandAt ys new) (append_assoc xs (x ∷ []) more)
      (more_stand guest term (xs ++ x ∷ []) more (mark_behind x) new (one_more guest term xs x old stand piece) rest)

-- ---- what was cut stands behind what was cut before

module _ (guest : GuestParts) (term harts : ℕ) (book : BookView RecordingView) (past : GuestTerm) (old new : SealedView) (frames : List Frame)
    (its : IsTermOfBook book past) (marks : IsSealedTo past old) (cut : IsCut (book_log guest term book) harts old frames new) where
  row : (hart : ℕ) → StandAt book hart (count_at past.opening.base hart) (past.pieces hart ++ slice_index_or cut.pieces hart []) (mark_of new hart)
  row hart =
      more_stand book hart (count_at past.opening.base hart) guest term (past.pieces hart) (slice_index_or cut.pieces hart []) (mark_of old hart)
      (mark_of new hart)
      (record { no_gap = its.pieces.no_gap hart; tell = its.pieces.tell hart; at_mark = marks hart })
      (cut.each hart).row

  pub cut_of_book : IsTermOfBook book (with_pieces past (λ hart. slice_index_or cut.pieces hart []))
  cut_of_book =
      record {
        told = its.told;
        base = its.base;
        pieces = record { no_gap = λ hart. (row hart).no_gap; tell = λ hart. (row hart).tell };
      }

  pub cut_sealed : IsSealedTo (with_pieces past (λ hart. slice_index_or cut.pieces hart [])) new
  cut_sealed hart = (row hart).at_mark
