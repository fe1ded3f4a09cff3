-- One hart more.
use Rattle.std.proofs.Common.{◌≡◌, ◌⊎◌, ℕ, ◌+◌, ◌<◌, ◌≤◌, ◌&&◌, true, false, nat_le, nat_lt, List, [], ◌∷◌, ◌++◌, length, map, flat_map, slice_index_or, arith}
use Rattle.std.proofs.Common.{refl, sym, ap, subst, ◌∙◌, inl, inr, append-nil}
use Rattle.std.proofs.lemmas.Bool.{cases_lt, cases_eq, cases_Bool, le-leb, lt-ltb, and_from, and_right}
use Rattle.std.proofs.lemmas.List.{map-append, get_or_append_left, get_or_past, get_or_push, length_push}
use Rattle.std.proofs.lemmas.List.Elements.{filter_agree}
use Rattle.std.proofs.lemmas.List.Concat.{flat_map-append}
use Rattle.ft_types.specs.Counts.{count_at}
use Rattle.ft_types.specs.Guests.{GuestParts}
use Rattle.edge_log.specs.declared.Edge.{Edge}
use Rattle.edge_log.specs.EdgeLog.{Edges, row_of}
use Rattle.input_log.specs.declared.Input.{Input as HartInput}
use Rattle.input_log.specs.Inputs.{inputs_of}
use Rattle.input_log.specs.Notes.{NotesOfOne, notes_of}
use Rattle.fragment_codec.specs.declared.types.Record.{Record}
use Rattle.fragment_codec.specs.declared.frame.Frame.{Frame}
use Rattle.fragment_codec.specs.declared.frame.Frame.TheVariants.{Log}
use Rattle.fragment_codec.specs.Rules.{FragmentParts}
use Rattle.fragment_codec.specs.Facts.{Facts, facts_between, is_between, number_of}
use Rattle.log_pieces.specs.Pieces.{HartLog, Mark, SealedView, mark_of, IsPiece, ArePieces, mark_behind}
use Rattle.fragment_codec.specs.Facts.{told_by}
use Rattle.log_pieces.specs.Pieces.{IsHartCut, IsCut, hart_log}
use Rattle.log_pieces.specs.machinery.Cutting.{CutsHart, log_of_records}
use Rattle.log_pieces.proofs.cuts.Between.{between_is}
use Rattle.log_pieces.proofs.cuts.Filters.{filter-filter}

-- ---- a part of a log

module _ (from to a b : ℕ) (low : from ≤ a) (high : b ≤ to) where
  both_between : (n : ℕ) → (is_between from to n && is_between a b n) ≡ is_between a b n
  both_between n = cases (cases_Bool (is_between a b n))
    where
      cases : (is_between a b n ≡ true) ⊎ (is_between a b n ≡ false) → (is_between from to n && is_between a b n) ≡ is_between a b n
      cases (inl inside) =
          let n_is = between_is a b n inside in
          let outer : is_between from to n ≡ true = and_from (nat_le from n) (nat_lt n to) (le-leb from n (omega (arith, n_is)))
          (lt-ltb n to (omega (arith, n_is))) in
          rw outer refl
      cases (inr outside) = and_right (is_between from to n) (is_between a b n) outside ∙ sym outside

  pub between_between : (facts : Facts) → facts_between a b (facts_between from to facts) ≡ facts_between a b facts
  between_between facts =
      let edges = filter-filter (λ (e : Edge). is_between a b e.at) (λ e. is_between from to e.at) facts.edges ∙
      filter_agree (λ (e : Edge). is_between from to e.at && is_between a b e.at) (λ e. is_between a b e.at) (λ e. both_between e.at) facts.edges in
      let inputs = filter-filter (λ (x : ℕ × HartInput). is_between a b x.0) (λ x. is_between from to x.0) facts.inputs ∙
      filter_agree (λ (x : ℕ × HartInput). is_between from to x.0 && is_between a b x.0) (λ x. is_between a b x.0) (λ x. both_between x.0) facts.inputs in
      let notes = filter-filter (λ (x : ℕ × ℕ). is_between a b x.0) (λ x. is_between from to x.0) facts.notes ∙
      filter_agree (λ (x : ℕ × ℕ). is_between from to x.0 && is_between a b x.0) (λ x. is_between a b x.0) (λ x. both_between x.0) facts.notes in
      cc

-- the log with its facts between a count and the settled one alone
abbrev pub log_from : ℕ → HartLog → HartLog
log_from from log = record log { facts = facts_between from log.settled log.facts }

end_within : (log : HartLog) (mark : Mark) (piece : FragmentParts) → IsPiece log mark piece → piece.to ≤ log.settled
end_within log mark piece is = elim is.far [ inl all ↦ omega arith | inr more ↦ omega (arith, more.0) ]

piece_of_whole : (from : ℕ) (log : HartLog) (mark : Mark) (piece : FragmentParts) → from ≤ mark.count → IsPiece (log_from from log) mark piece →
    IsPiece log mark piece
piece_of_whole from log mark piece low is =
    let begins = is.begins in
    let inside = end_within (log_from from log) mark piece is in
    record {
      rules = is.rules;
      same_guest = is.same_guest;
      key = is.key;
      begins = is.begins;
      exact = is.exact ∙ between_between from log.settled piece.from piece.to (omega arith) inside log.facts;
      short = is.short;
      far =
          elim is.far [
            | inl all ↦ inl all
            | inr (less, inr long) ↦ inr (less, inr long)
            | inr (less, inl many) ↦
                inr (
                  less,
                  inl (subst (λ f. 256 < number_of f) (between_between from log.settled piece.from (piece.to + 1) (omega arith) (omega (arith, less))
                      log.facts) many),
                )
          ];
    }

pieces_of_whole : (from : ℕ) (log : HartLog) (old : Mark) (pieces : List FragmentParts) (new : Mark) → from ≤ old.count →
    ArePieces (log_from from log) old pieces new → ArePieces log old pieces new
pieces_of_whole from log old [] new low row = row
pieces_of_whole from log old (piece ∷ pieces) new low row = (
  piece_of_whole from log old piece low row.0,
  pieces_of_whole from log (mark_behind piece) pieces new (let some = row.0.rules.some in let begins = row.0.begins in omega arith) row.1,
)

-- the records of a hart, as its log
pub log_is : (guest : GuestParts) (term : ℕ) (edges : Edges) (inputs : List (List (ℕ × HartInput))) (notes : List NotesOfOne) (settled : List ℕ) (seals : SealedView)
    (number hart from end : ℕ) (facts : List Record) →
    hart ≡ number → from ≡ (mark_of seals hart).count → end ≡ count_at settled hart →
    told_by facts ≡ facts_between from end (record { edges = row_of edges hart; inputs = inputs_of inputs hart; notes = notes_of notes hart }) →
    log_of_records (record { guest = guest; term = term; hart = hart; settled = end }) facts ≡ log_from (mark_of seals number).count
    (hart_log guest term edges inputs notes settled number)
log_is guest term edges inputs notes settled seals number hart from end facts same begins ends told =
    subst
    (λ n. log_of_records (record { guest = guest; term = term; hart = hart; settled = end }) facts ≡ log_from (mark_of seals n).count
    (hart_log guest term edges inputs notes settled n)) same
    (rw (← begins, ← ends, told) refl)

-- ---- all harts so far

-- of the harts, so many are cut
pub record HartsCut (logs : ℕ → HartLog) (number : ℕ) (old : SealedView) (frames : List Frame) (new : SealedView) : Type 0 where
  pub pieces : List (List FragmentParts)
  pub every : length pieces ≡ number
  pub in_turn : frames ≡ map Log (flat_map (λ of_hart. of_hart) pieces)
  pub done : (hart : ℕ) → hart < number → IsHartCut (logs hart) (mark_of old hart) (slice_index_or pieces hart []) (mark_of new hart)
  pub kept : (hart : ℕ) → number ≤ hart → mark_of new hart ≡ mark_of old hart
  pub same_harts : length new.reached ≡ length old.reached

pub none_cut : (logs : ℕ → HartLog) (old : SealedView) → HartsCut logs 0 old [] old
none_cut logs old =
    record { pieces = []; every = refl; in_turn = refl; done = λ hart below. absurd (omega arith); kept = λ hart le. refl; same_harts = refl }

pub hart_cut : (logs : ℕ → HartLog) (number : ℕ) (old : SealedView) (frames : List Frame) (seals : SealedView) (after : List Frame) (new : SealedView)
    (log : HartLog) →
    HartsCut logs number old frames seals → log ≡ log_from (mark_of seals number).count (logs number) → log.hart ≡ number →
    CutsHart log seals frames new after →
    HartsCut logs (number + 1) old after new
hart_cut logs number old frames seals after new log h is same cut =
    record {
      pieces = h.pieces ++ cut.pieces ∷ [];
      every = length_push h.pieces cut.pieces ∙ ap (λ n. n + 1) h.every;
      in_turn =
          cut.added ∙
          (ap (λ l. l ++ map Log cut.pieces) h.in_turn ∙
          (sym (map-append Log (flat_map (λ ps. ps) h.pieces) cut.pieces) ∙
          ap (map Log) (ap (λ l. flat_map (λ ps. ps) h.pieces ++ l) (sym (append-nil cut.pieces)) ∙
          sym (flat_map-append (λ ps. ps) h.pieces (cut.pieces ∷ [])))));
      done = λ hart below. done hart below (cases_eq hart number);
      kept = λ hart le. cut.others hart (λ e. absurd (omega arith)) ∙ h.kept hart (omega arith);
      same_harts = cut.same_harts ∙ h.same_harts;
    }
  where
    now_cut : IsHartCut (logs number) (mark_of old number) cut.pieces (mark_of new number)
    now_cut =
        let whole : IsHartCut (log_from (mark_of seals number).count (logs number)) (mark_of seals number) cut.pieces (mark_of new number) =
        subst (λ l. IsHartCut l (mark_of seals number) cut.pieces (mark_of new number)) is
        (subst (λ n. IsHartCut log (mark_of seals n) cut.pieces (mark_of new n)) same cut.cut) in
        subst (λ m. IsHartCut (logs number) m cut.pieces (mark_of new number)) (h.kept number (omega arith))
        (record {
          row = pieces_of_whole (mark_of seals number).count (logs number) (mark_of seals number) cut.pieces (mark_of new number)
              (omega arith) whole.row;
          end = whole.end;
        })

    done : (hart : ℕ) → hart < number + 1 → (hart ≡ number) ⊎ (hart ≡ number → ⊥) →
        IsHartCut (logs hart) (mark_of old hart) (slice_index_or (h.pieces ++ cut.pieces ∷ []) hart []) (mark_of new hart)
    done hart below (inl here) =
        let read : slice_index_or (h.pieces ++ cut.pieces ∷ []) number [] ≡ cut.pieces = get_or_push h.pieces cut.pieces [] number h.every in
        rw (here, read) now_cut
    done hart below (inr there) =
        let every = h.every in
        let read : slice_index_or (h.pieces ++ cut.pieces ∷ []) hart [] ≡ slice_index_or h.pieces hart [] = get_or_append_left h.pieces (cut.pieces ∷ []) []
        hart (omega (arith, there)) in
        rw (read, cut.others hart (λ e. there (e ∙ same))) (h.done hart (omega (arith, there)))

-- all are cut: a hart that the guest lacks has no piece and nothing settled
pub all_cut : (logs : ℕ → HartLog) (harts : ℕ) (old : SealedView) (frames : List Frame) (new : SealedView) → HartsCut logs harts old frames new →
    length old.reached ≡ harts → ((hart : ℕ) → harts ≤ hart → (logs hart).settled ≡ 0) → IsCut logs harts old frames new
all_cut logs harts old frames new h size none =
    record { pieces = h.pieces; every = h.every; in_turn = h.in_turn; each = λ hart. each hart (cases_lt hart harts); same_harts = h.same_harts }
  where
    each : (hart : ℕ) → (hart < harts) ⊎ (harts ≤ hart) → IsHartCut (logs hart) (mark_of old hart) (slice_index_or h.pieces hart []) (mark_of new hart)
    each hart (inl below) = h.done hart below
    each hart (inr past) =
        let every = h.every in
        let same = h.same_harts in
        let no_pieces : slice_index_or h.pieces hart [] ≡ [] = get_or_past h.pieces hart [] (omega arith) in
        rw no_pieces (record { row = h.kept hart past; end = inl (get_or_past new.reached hart 0 (omega arith) ∙ sym (none hart past)) })
