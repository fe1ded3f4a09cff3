-- The frames that are cut of a book are its term's.
use Rattle.std.proofs.Common.{◌≡◌, ◌⊎◌, ◌+◌, ℕ, zero, suc, List, [], ◌∷◌, ◌++◌, length, slice_get, slice_index_or, Contains, Some, None, refl, sym, ap}
use Rattle.std.proofs.Common.{subst, ◌∙◌, inl, inr, arith}
use Rattle.std.specs.List.{flat_map}
use Rattle.std.proofs.lemmas.List.{length-append}
use Rattle.std.proofs.lemmas.Option.{slice_get-get_or}
use Rattle.interleaving.specs.Lists.{put}
use Rattle.interleaving.proofs.Put.{put_same}
use Rattle.edge_log.proofs.Logs.{map_contains}
use Rattle.ft_types.specs.Counts.{count_at}
use Rattle.ft_types.specs.Guests.{GuestParts}
use Rattle.hart_lease.specs.Runs.{counts_of}
use Rattle.page_book.specs.Books.{BookView}
use Rattle.book_modes.specs.Recordings.{RecordingView}
use Rattle.fragment_codec.specs.declared.types.Key.{Key}
use Rattle.fragment_codec.specs.declared.frame.Frame.{Frame}
use Rattle.fragment_codec.specs.declared.frame.Frame.TheVariants.{Log}
use Rattle.fragment_codec.specs.Rules.{FragmentParts}
use Rattle.log_pieces.specs.Pieces.{HartLog, Mark, SealedView, IsPiece, ArePieces, mark_behind, mark_of, book_log, IsCut as AreCut}
use Rattle.log_join.specs.Cells.{One}
use Rattle.log_join.specs.Families.{NoGap, end_of, fragment_in, OfFamily}
use Rattle.log_join.proofs.Families.{piece_granted}
use Rattle.hart_replay.specs.Images.{GuestTerm, GuestHistory}
use Rattle.hart_replay.specs.Primaries.{IsPieceOf, IsTermOfBook, UnsealedIsOfBook, IsSealedTo, with_pieces, CutsSealMore, TermsGoOn}
use Rattle.hart_replay.proofs.honesty.Primaries.{in_rows, is_piece}
use Rattle.hart_replay.proofs.honesty.Lasting.{pieces_last}

-- ---- lists

no_gap_append : (from : ℕ) (xs ys : List FragmentParts) → NoGap from xs → NoGap (end_of from xs) ys → NoGap from (xs ++ ys)
no_gap_append from [] ys first second = second
no_gap_append from (x ∷ xs) ys (begins, rest) second = (begins, no_gap_append x.to xs ys rest second)

end_append : (from : ℕ) (xs ys : List FragmentParts) → end_of from (xs ++ ys) ≡ end_of (end_of from xs) ys
end_append from [] ys = refl
end_append from (x ∷ xs) ys = end_append x.to xs ys

slice_of_append : {A : Type 0} (xs ys : List A) (k : ℕ) (x : A) → slice_get (xs ++ ys) k ≡ Some x →
    (slice_get xs k ≡ Some x) ⊎ ((i : ℕ) × (slice_get ys i ≡ Some x))
slice_of_append [] ys k x at = inr (k, at)
slice_of_append (y ∷ xs) ys zero x at = inl at
slice_of_append (y ∷ xs) ys (suc k) x at = slice_of_append xs ys k x at

slice_right : {A : Type 0} (xs ys : List A) (n k : ℕ) (x : A) → n ≡ length xs + k → slice_get ys k ≡ Some x → slice_get (xs ++ ys) n ≡ Some x
slice_right [] ys n k x e at = let same : k ≡ n = omega (arith, e) in subst (λ (i : ℕ). slice_get ys i ≡ Some x) same at
slice_right (y ∷ xs) ys zero k x e at = absurd (omega (arith, e))
slice_right (y ∷ xs) ys (suc n) k x e at = slice_right xs ys n k x (omega (arith, e)) at

-- ---- the pieces of one hart

row_no_gap : (log : HartLog) (old : Mark) (row : List FragmentParts) (new : Mark) → ArePieces log old row new → NoGap old.count row
row_no_gap log old [] new are = tt
row_no_gap log old (piece ∷ row) new (first, rest) = (first.begins, row_no_gap log (mark_behind piece) row new rest)

-- where they lead
pub record LeadsOn (old : Mark) (row : List FragmentParts) (new : Mark) : Type 0 where
  pub place : new.place ≡ old.place + length row
  pub count : new.count ≡ end_of old.count row

row_leads : (log : HartLog) (old : Mark) (row : List FragmentParts) (new : Mark) → ArePieces log old row new → LeadsOn old row new
row_leads log old [] new is = record { place = let e = ap (λ (m : Mark). m.place) is in omega (arith, e); count = ap (λ (m : Mark). m.count) is }
row_leads log old (piece ∷ row) new (first, rest) =
    let on = row_leads log (mark_behind piece) row new rest in
    let place = on.place in
    let own : piece.key.place ≡ old.place = ap (λ (k : Key). k.place) first.key in
    record { place = omega (arith, place, own); count = on.count }

-- each stands at its key
pub record StandsIn (log : HartLog) (old : Mark) (k : ℕ) (piece : FragmentParts) : Type 0 where
  pub key : piece.key ≡ record { term = log.term; hart = log.hart; place = old.place + k }
  pub mark : Mark
  pub is_piece : IsPiece log mark piece

row_stands : (log : HartLog) (old : Mark) (row : List FragmentParts) (new : Mark) → ArePieces log old row new → (k : ℕ) (piece : FragmentParts) →
    slice_get row k ≡ Some piece → StandsIn log old k piece
row_stands log old [] new are k piece at = let no : None ≡ Some piece = at in cc
row_stands log old (x ∷ row) new (first, rest) zero piece at =
    let same : x ≡ piece = let e : Some x ≡ Some piece = at in cc in
    subst (λ (p : FragmentParts). StandsIn log old 0 p) same
    (record {
      key = first.key ∙ ap (λ (n : ℕ). let k : Key = record { term = log.term; hart = log.hart; place = n } in k) (omega arith);
      mark = old;
      is_piece = first;
    })
row_stands log old (x ∷ row) new (first, rest) (suc k) piece at =
    let later = row_stands log (mark_behind x) row new rest k piece at in
    let own : x.key.place ≡ old.place = ap (λ (k : Key). k.place) first.key in
    record {
      key = later.key ∙ ap (λ (n : ℕ). let k : Key = record { term = log.term; hart = log.hart; place = n } in k) (omega (arith, own));
      mark = later.mark;
      is_piece = later.is_piece;
    }

-- ---- terms

pub unsealed_is_of_book : UnsealedIsOfBook
unsealed_is_of_book book opening base =
    record {
      told = refl;
      base = base;
      pieces = record { no_gap = λ hart. tt; tell = λ hart place piece at. let no : None ≡ Some piece = at in cc };
    }

pub terms_go_on : TermsGoOn
terms_go_on b c past its start tells =
    record {
      told = refl;
      base = λ hart. its.base hart ∙ ap (λ m. counts_of m hart) (sym start);
      pieces = record { no_gap = its.pieces.no_gap; tell = λ hart place piece at. pieces_last b c hart piece tells (its.pieces.tell hart place piece at) };
    }

module _ (guest : GuestParts) (number : ℕ) (book : BookView RecordingView) (past : GuestTerm) (old new : SealedView) (frames : List Frame)
    (its : IsTermOfBook book past) (marks : IsSealedTo past old) (cut : AreCut (book_log guest number book) guest.harts old frames new) where
  abbrev more : ℕ → List FragmentParts
  more hart = slice_index_or cut.pieces hart []

  abbrev log : ℕ → HartLog
  log hart = book_log guest number book hart

  row : (hart : ℕ) → ArePieces (book_log guest number book hart) (mark_of old hart) (slice_index_or cut.pieces hart []) (mark_of new hart)
  row hart = (cut.each hart).row

  old_place : (hart : ℕ) → (mark_of old hart).place ≡ length (past.pieces hart)
  old_place hart = ap (λ (m : Mark). m.place) (marks hart)

  old_count : (hart : ℕ) → (mark_of old hart).count ≡ end_of (count_at past.opening.base hart) (past.pieces hart)
  old_count hart = ap (λ (m : Mark). m.count) (marks hart)

  is_of_book : IsTermOfBook book (with_pieces past (λ hart. slice_index_or cut.pieces hart []))
  is_of_book =
      record {
        told = its.told;
        base = its.base;
        pieces =
            record {
              no_gap = λ hart.
                  no_gap_append (count_at past.opening.base hart) (past.pieces hart) (more hart) (its.pieces.no_gap hart)
                  (subst (λ (n : ℕ). NoGap n (more hart)) (old_count hart)
                  (row_no_gap (log hart) (mark_of old hart) (more hart) (mark_of new hart) (row hart)));
              tell = λ hart place piece at. elim (slice_of_append (past.pieces hart) (more hart) place piece at) [
                | inl was ↦ its.pieces.tell hart place piece was
                | inr (k, is) ↦
                    let stands = row_stands (log hart) (mark_of old hart) (more hart) (mark_of new hart) (row hart) k piece is in
                    subst (λ (h : ℕ). IsPieceOf book h piece) (ap (λ (k : Key). k.hart) stands.key)
                    (is_piece guest number book hart stands.mark piece stands.is_piece)
              ];
            };
      }

  sealed : IsSealedTo (with_pieces past (λ hart. slice_index_or cut.pieces hart [])) new
  sealed hart =
      let on = row_leads (log hart) (mark_of old hart) (more hart) (mark_of new hart) (row hart) in
      let from = count_at past.opening.base hart in
      let many : length (past.pieces hart ++ more hart) ≡ length (past.pieces hart) + length (more hart) = length-append (past.pieces hart) (more hart) in
      let placed = on.place in
      let was = old_place hart in
      let place : (mark_of new hart).place ≡ length (past.pieces hart ++ more hart) = omega (arith, many, placed, was) in
      let count : (mark_of new hart).count ≡ end_of (count_at past.opening.base hart) (past.pieces hart ++ more hart) =
      on.count ∙ ap (λ (n : ℕ). end_of n (more hart)) (old_count hart) ∙ sym (end_append (count_at past.opening.base hart) (past.pieces hart) (more hart)) in
      λ i. record { place = place i; count = count i }

  module _ (history : GuestHistory) where
    longer : GuestTerm
    longer = with_pieces past (λ hart. slice_index_or cut.pieces hart [])

    at_its_key : (hart k : ℕ) (piece : FragmentParts) → slice_get (more hart) k ≡ Some piece →
        fragment_in (put history number (Some (with_pieces past (λ hart. slice_index_or cut.pieces hart [])))) piece.key ≡ One piece
    at_its_key hart k piece at =
        let stands = row_stands (log hart) (mark_of old hart) (more hart) (mark_of new hart) (row hart) k piece at in
        let place = old_place hart in
        let its_key : Key = record { term = number; hart = hart; place = length (past.pieces hart) + k } in
        let key : piece.key ≡ its_key =
        stands.key ∙ ap (λ (n : ℕ). let k : Key = record { term = number; hart = hart; place = n } in k) (ap (λ (n : ℕ). n + k) place) in
        subst (λ (q : Key). fragment_in (put history number (Some (with_pieces past (λ hart. slice_index_or cut.pieces hart [])))) q ≡ One piece) (sym key)
        (piece_granted (put history number (Some (with_pieces past (λ hart. slice_index_or cut.pieces hart [])))) its_key
        (with_pieces past (λ hart. slice_index_or cut.pieces hart [])) piece
        (put_same history number number (Some (with_pieces past (λ hart. slice_index_or cut.pieces hart []))) refl)
        (slice_right (past.pieces hart) (more hart) (length (past.pieces hart) + k) k piece refl at))

    of_family : (frame : Frame) → Contains frames frame →
        OfFamily (put history number (Some (with_pieces past (λ hart. slice_index_or cut.pieces hart [])))) frame
    of_family frame is_in =
        let all = flat_map (λ row. row) cut.pieces in
        let (found, there, same) = map_contains Log all frame (subst (λ l. Contains l frame) cut.in_turn is_in) in
        let (hart, in_hart) = in_rows cut.pieces found there in
        let (k, less, is) = in_hart in
        let at : slice_get (more hart) k ≡ Some found = slice_get-get_or (more hart) k found less ∙ ap Some is in
        subst (λ (f : Frame). OfFamily (put history number (Some (with_pieces past (λ hart. slice_index_or cut.pieces hart [])))) f) same
        (at_its_key hart k found at)

pub cuts_seal_more : CutsSealMore
cuts_seal_more guest number book past old new frames its marks cut =
    record {
      more = λ hart. slice_index_or cut.pieces hart [];
      is_of_book = is_of_book guest number book past old new frames its marks cut;
      sealed = sealed guest number book past old new frames its marks cut;
      of_family = of_family guest number book past old new frames its marks cut;
    }
