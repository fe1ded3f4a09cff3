-- Pieces that are sent one after the other: of one hart, and then of each.
use Rattle.std.proofs.Common.{◌≡◌, inl, inr, ℕ, suc, ◌+◌, ◌-◌, ◌<◌, ◌≤◌, List, [], ◌∷◌, ◌++◌, length, map, slice_index_or, get_or, refl, sym, ap, subst, ◌∙◌, arith}
use Rattle.std.specs.List.{flat_map}
use Rattle.std.proofs.Math.Path.{fun_ext}
use Rattle.std.proofs.lemmas.Bool.{cases_lt}
use Rattle.std.proofs.lemmas.List.{append_assoc, append-nil, length-append, map-append}
use Rattle.interleaving.specs.Lists.{put}
use Rattle.interleaving.proofs.Put.{same_or_not, put_same, put_other}
use Rattle.fragment_codec.specs.declared.frame.Frame.{Frame}
use Rattle.fragment_codec.specs.declared.frame.Frame.TheVariants.{Log}
use Rattle.fragment_codec.specs.declared.types.Key.{Key}
use Rattle.fragment_codec.specs.Rules.{FragmentParts}
use Rattle.log_pieces.specs.Pieces.{HartLog, Mark, SealedView, IsCut, IsPiece, ArePieces, mark_behind, mark_of}
use Rattle.log_join.specs.Families.{end_of}
use Rattle.primary.proofs.Pieces.{end_more}
use Rattle.primary.proofs.Put.{put_own, put_put}

-- What holds of the pieces and frames that were sent, whatever they are, holds with one piece more of a hart.
module _ (logs : ℕ → HartLog) (from : ℕ → ℕ) (Holds : (ℕ → List FragmentParts) → List Frame → Type 0)
    (one_piece : (f : ℕ → List FragmentParts) (sent : List Frame) (hart : ℕ) (mark : Mark) (x : FragmentParts) → mark.place ≡ length (f hart) →
    mark.count ≡ end_of (from hart) (f hart) → IsPiece (logs hart) mark x → Holds f sent →
    Holds (put f hart (f hart ++ x ∷ [])) (sent ++ Log x ∷ [])) where
  one_row : (f : ℕ → List FragmentParts) (sent : List Frame) (hart : ℕ) (xs : List FragmentParts) (old new : Mark) → old.place ≡ length (f hart) →
      old.count ≡ end_of (from hart) (f hart) → ArePieces (logs hart) old xs new → Holds f sent →
      Holds (put f hart (f hart ++ xs)) (sent ++ map Log xs)
  one_row f sent hart [] old new place count pieces holds =
      subst (λ g. Holds g (sent ++ [])) (sym (put_own f hart (f hart ++ []) (sym (append-nil (f hart)))))
      (subst (Holds f) (sym (append-nil sent)) holds)
  one_row f sent hart (x ∷ xs) old new place count (piece, rest) holds =
      let there : put f hart (f hart ++ x ∷ []) hart ≡ f hart ++ x ∷ [] = put_same f hart hart (f hart ++ x ∷ []) refl in
      let many : length (f hart ++ x ∷ []) ≡ length (f hart) + 1 = length-append (f hart) (x ∷ []) in
      let own : x.key.place ≡ old.place = ap (λ (k : Key). k.place) piece.key in
      let further : length (put f hart (f hart ++ x ∷ []) hart) ≡ length (f hart ++ x ∷ []) = ap length there in
      let all : put (put f hart (f hart ++ x ∷ [])) hart (put f hart (f hart ++ x ∷ []) hart ++ xs) ≡ put f hart (f hart ++ x ∷ xs) =
      put_put f hart (f hart ++ x ∷ []) (put f hart (f hart ++ x ∷ []) hart ++ xs)
      ∙ ap (put f hart) (ap (λ ys. ys ++ xs) there ∙ append_assoc (f hart) (x ∷ []) xs) in
      subst (λ g. Holds g (sent ++ Log x ∷ map Log xs)) all
      (subst (Holds (put (put f hart (f hart ++ x ∷ [])) hart (put f hart (f hart ++ x ∷ []) hart ++ xs))) (append_assoc sent (Log x ∷ []) (map Log xs))
      (one_row (put f hart (f hart ++ x ∷ [])) (sent ++ Log x ∷ []) hart xs (mark_behind x) new
      (let e : x.key.place + 1 ≡ length (put f hart (f hart ++ x ∷ []) hart) = omega (arith, own, place, many, further) in e)
      (sym (end_more (from hart) (f hart) x) ∙ ap (end_of (from hart)) (sym there))
      rest (one_piece f sent hart old x place count piece holds)))

  module _ (pieces : ℕ → List FragmentParts) (old new : SealedView)
      (marks : (hart : ℕ) → mark_of old hart ≡ record { place = length (pieces hart); count = end_of (from hart) (pieces hart) }) where
    next_row : (f : ℕ → List FragmentParts) (sent : List Frame) (hart : ℕ) (xs : List FragmentParts) → f hart ≡ pieces hart →
        ArePieces (logs hart) (mark_of old hart) xs (mark_of new hart) → Holds f sent → Holds (put f hart (f hart ++ xs)) (sent ++ map Log xs)
    next_row f sent hart xs was row holds =
        one_row f sent hart xs (mark_of old hart) (mark_of new hart) (ap (λ (m : Mark). m.place) (marks hart) ∙ ap length (sym was))
        (ap (λ (m : Mark). m.count) (marks hart) ∙ ap (end_of (from hart)) (sym was)) row holds

    -- the rows of the harts from the n-th on
    all_rows : (rows : List (List FragmentParts)) (n : ℕ) (f g : ℕ → List FragmentParts) (sent : List Frame) →
        ((hart : ℕ) → n ≤ hart → f hart ≡ pieces hart) →
        ((hart : ℕ) → hart < n → g hart ≡ f hart) →
        ((hart k : ℕ) → hart ≡ n + k → g hart ≡ f hart ++ get_or rows k []) →
        ((hart k : ℕ) → hart ≡ n + k → ArePieces (logs hart) (mark_of old hart) (get_or rows k []) (mark_of new hart)) →
        Holds f sent → Holds g (sent ++ map Log (flat_map (λ row. row) rows))
    all_rows [] n f g sent were before later cut holds =
        let same : f ≡ g =
        fun_ext
        (λ hart.
        elim (cases_lt hart n) [
          | inl less ↦ sym (before hart less)
          | inr over ↦ sym (later hart (hart - n) (omega (arith, over)) ∙ append-nil (f hart))
        ]) in
        subst (λ s. Holds g s) (sym (append-nil sent)) (subst (λ h. Holds h sent) same holds)
    all_rows (row ∷ rows) n f g sent were before later cut holds =
        let others : (hart k : ℕ) → hart ≡ suc n + k → put f n (f n ++ row) hart ≡ f hart =
        λ hart k e. put_other f n hart (f n ++ row) (λ same. absurd (omega (arith, e, same))) in
        let rest =
        all_rows rows (suc n) (put f n (f n ++ row)) g (sent ++ map Log row)
        (λ hart le. others hart (hart - suc n) (omega (arith, le)) ∙ were hart (omega (arith, le)))
        (λ hart less.
        elim (same_or_not n hart) [
          | inl same ↦ later hart 0 (omega (arith, same)) ∙ ap (λ h. f h ++ row) (sym same) ∙ sym (put_same f n hart (f n ++ row) same)
          | inr other ↦ before hart (below hart n less other) ∙ sym (put_other f n hart (f n ++ row) other)
        ])
        (λ hart k e. later hart (suc k) (omega (arith, e)) ∙ ap (λ xs. xs ++ get_or rows k []) (sym (others hart k e)))
        (λ hart k e. cut hart (suc k) (omega (arith, e)))
        (next_row f sent n row (were n (omega arith)) (cut n 0 (omega arith)) holds) in
        subst (Holds g)
        (
        append_assoc sent (map Log row) (map Log (flat_map (λ row. row) rows)) ∙
        ap (λ frames. sent ++ frames) (sym (map-append Log row (flat_map (λ row. row) rows)))
        )
        rest
      where
        below : (hart n : ℕ) → hart < suc n → (n ≡ hart → ⊥) → hart < n
        below hart n less other = elim (cases_lt hart n) [ inl lt ↦ lt | inr over ↦ absurd (other (omega (arith, less, over))) ]

    -- so it holds with all that is cut
    pub cut_holds : (harts : ℕ) (sent frames : List Frame) (cut : IsCut logs harts old frames new) → Holds pieces sent →
        Holds (λ hart. pieces hart ++ slice_index_or cut.pieces hart []) (sent ++ frames)
    cut_holds harts sent frames cut holds =
        subst (λ fs. Holds (λ hart. pieces hart ++ slice_index_or cut.pieces hart []) (sent ++ fs)) (sym cut.in_turn)
        (all_rows cut.pieces 0 pieces (λ hart. pieces hart ++ slice_index_or cut.pieces hart []) sent (λ hart le. refl)
        (λ hart less. absurd (omega (arith, less)))
        (λ hart k e. ap (λ j. pieces hart ++ slice_index_or cut.pieces j []) (same_place hart k e))
        (λ hart k e.
        subst (λ j. ArePieces (logs hart) (mark_of old hart) (get_or cut.pieces j []) (mark_of new hart)) (same_place hart k e) (cut.each hart).row)
        holds)
      where
        same_place : (hart k : ℕ) → hart ≡ 0 + k → hart ≡ k
        same_place hart k e = omega (arith, e)
