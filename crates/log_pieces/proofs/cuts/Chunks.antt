-- One piece more.
use Rattle.std.proofs.Common.{◌≡◌, ◌≢◌, ◌⊎◌, ℕ, ◌+◌, ◌-◌, min, slice_get, ◌<◌, ◌≤◌, ◌^◌, ◌&&◌, true, nat_le, nat_lt, ◌==◌, eq-eqb, List, [], ◌∷◌, ◌++◌, length, map, get_or, set}
use Rattle.std.proofs.Common.{filter, slice_index, arith, refl, sym, ap, subst, ◌∙◌, inl, inr, append_assoc, append-nil, get_or-set_same, get_or-set_other}
use Rattle.std.proofs.Common.{length-set}
use Rattle.std.proofs.ByRecursion.{all_kept_by, kept_by_passes}
use Rattle.std.proofs.lemmas.Bool.{cases_lt, lt-ltb, le-ltb, ltb-true, le-leb, lt-leb, leb-true, and_right}
use Rattle.std.proofs.lemmas.List.{map-append, get_or_default}
use Rattle.std.proofs.lemmas.List.Elements.{All-from_recursion, filter_agree}
use Rattle.std.proofs.lemmas.Option.{slice_get_cases}
use Rattle.ft_types.specs.Counts.{count_at}
use Rattle.ft_types.specs.declared.names.TheConstants.{HART_LIMIT}
use Rattle.fragment_codec.specs.declared.types.Record.{Record}
use Rattle.fragment_codec.specs.declared.frame.Frame.{Frame}
use Rattle.fragment_codec.specs.declared.frame.Frame.TheVariants.{Log}
use Rattle.log_pieces.specs.declared.cutting.Origin.{Origin}
use Rattle.fragment_codec.specs.Rules.{count_of, FragmentParts, IsFragment, IsFactOf, IsRecordOf, AreRecords}
use Rattle.fragment_codec.specs.Facts.{told_by, facts_between, is_between, number_of}
use Rattle.log_pieces.specs.Pieces.{HartLog, Mark, SealedView, mark_of, IsPiece, ArePieces, mark_behind}
use Rattle.log_pieces.specs.machinery.Cutting.{AreLogged, StandBetween, end_of, end_at, log_of_records, MayCut, CutsHart}
use Rattle.log_pieces.proofs.cuts.Filters.{filter_all, filter-filter, filter-le-length, length-filter_front, length-filter-le, all_both}
use Rattle.log_pieces.proofs.cuts.Records.{rising, logged_filter, told_between, number_told, few_at}

-- ---- where a piece ends

-- the count `to` is a right end of a piece that begins at `from` with the first of the records
pub record Ends (from to settled : ℕ) (rest : List Record) : Type 0 where
  pub some : from < to
  pub inside : to ≤ settled
  pub short : to - from < 2 ^ 32
  pub limit : length (filter (λ fact. nat_lt (count_of fact) to) rest) ≤ 256
  pub far : (to ≡ settled) ⊎ ((to < settled) × ((256 < length (filter (λ fact. nat_lt (count_of fact) (to + 1)) rest)) ⊎ (to + 1 - from ≡ 2 ^ 32)))

-- the same, as far as records have room
record RecordsEnd (from to settled : ℕ) (rest : List Record) : Type 0 where
  some : from < to
  inside : to ≤ settled
  limit : length (filter (λ fact. nat_lt (count_of fact) to) rest) ≤ 256
  far : (to ≡ settled) ⊎ ((to < settled) × (256 < length (filter (λ fact. nat_lt (count_of fact) (to + 1)) rest)))

-- fewer records stand before an earlier count
fewer : (a b : ℕ) (rs : List Record) → a ≤ b → length (filter (λ fact. nat_lt (count_of fact) a) rs) ≤ length (filter (λ fact. nat_lt (count_of fact) b) rs)
fewer a b rs le =
    let both : filter (λ fact. nat_lt (count_of fact) a) (filter (λ fact. nat_lt (count_of fact) b) rs) ≡ filter (λ fact. nat_lt (count_of fact) a) rs =
    filter-filter (λ fact. nat_lt (count_of fact) a) (λ fact. nat_lt (count_of fact) b) rs ∙
    filter_agree (λ fact. nat_lt (count_of fact) b && nat_lt (count_of fact) a) (λ fact. nat_lt (count_of fact) a)
    (λ fact. agree (count_of fact) (cases_lt (count_of fact) a)) rs in
    omega (arith, filter-le-length (λ fact. nat_lt (count_of fact) a) (filter (λ fact. nat_lt (count_of fact) b) rs), ap length both)
  where
    agree : (n : ℕ) → (n < a) ⊎ (a ≤ n) → (nat_lt n b && nat_lt n a) ≡ nat_lt n a
    agree n (inl less) = rw (lt-ltb n b (omega arith)) refl
    agree n (inr past) = let no = le-ltb n a past in and_right (nat_lt n b) (nat_lt n a) no ∙ sym no

-- and no more counts than a piece may have
cut_short : (from end settled : ℕ) (rest : List Record) → RecordsEnd from end settled rest → Ends from (min end (from + (2 ^ 32 - 1))) settled rest
cut_short from end settled rest e =
    let some = e.some in
    let inside = e.inside in
    elim (cases_lt (from + (2 ^ 32 - 1)) end) [
      | inl long ↦
          let to : min end (from + (2 ^ 32 - 1)) ≡ from + (2 ^ 32 - 1) = omega (arith, long) in
          subst (λ n. Ends from n settled rest) (sym to) (record {
            some = omega arith;
            inside = omega (arith, long, inside);
            short = omega arith;
            limit = (let l = e.limit in omega (arith, l, fewer (from + (2 ^ 32 - 1)) end rest (omega (arith, long))));
            far = inr (omega (arith, long, inside), inr (omega arith));
          })
      | inr near ↦
          let to : min end (from + (2 ^ 32 - 1)) ≡ end = omega (arith, near) in
          subst (λ n. Ends from n settled rest) (sym to) (record {
            some = some;
            inside = inside;
            short = omega (arith, near, some);
            limit = e.limit;
            far = elim e.far [ inl all ↦ inl all | inr more ↦ inr (more.0, inl more.1) ];
          })
    ]

module _ (harts hart from settled : ℕ) (rest : List Record) (few : harts ≤ HART_LIMIT) (logged : AreLogged harts hart rest) (there : StandBetween from settled rest)
    (some : from < settled) where
  up : (i j : ℕ) (d : Record) → i ≤ j → j < length rest → count_of (get_or rest i d) ≤ count_of (get_or rest j d)
  up = rising rest logged.order

  at : (i : ℕ) (d : Record) → i < length rest → (from ≤ count_of (get_or rest i d)) × (count_of (get_or rest i d) < settled)
  at i d below = All-from_recursion (λ fact. (from ≤ count_of fact) × (count_of fact < settled)) rest there i d below

  -- the record that has no room
  over : (fact : Record) → 256 < length rest → get_or rest 256 fact ≡ fact → RecordsEnd from (count_of fact) settled rest
  over fact long is =
      record {
        some = later (cases_lt from (count_of fact));
        inside = omega (arith, high);
        limit = length-filter-le (λ r. nat_lt (count_of r) (count_of fact)) rest 256 (λ k d a b. le-ltb _ _ (after k d a b));
        far = inr (
          high,
          length-filter_front (λ r. nat_lt (count_of r) (count_of fact + 1)) rest 257 (omega arith)
              (λ k d a b. lt-ltb _ _ (omega (arith, before k d b))),
        );
      }
    where
      high : count_of fact < settled
      high = subst (λ r. count_of r < settled) is (at 256 fact long).1

      same : (d : Record) → get_or rest 256 d ≡ fact
      same d = get_or_default rest 256 d fact long ∙ is

      before : (k : ℕ) (d : Record) → k < 257 → count_of (get_or rest k d) ≤ count_of fact
      before k d b = subst (λ r. count_of (get_or rest k d) ≤ count_of r) (same d) (up k 256 d (omega arith) long)

      after : (k : ℕ) (d : Record) → 256 ≤ k → k < length rest → count_of fact ≤ count_of (get_or rest k d)
      after k d a b = subst (λ r. count_of r ≤ count_of (get_or rest k d)) (same d) (up 256 k d a b)

      later : (from < count_of fact) ⊎ (count_of fact ≤ from) → from < count_of fact
      later (inl less) = less
      later (inr back) =
          let many = length-filter_front (λ r. count_of r == from) rest 257 (omega arith)
          (λ k d a b. eq-eqb _ _ (let low = (at k d (omega arith)).0 in omega (arith, low, before k d b))) in
          absurd (omega (arith, few_at harts hart from rest few logged, many))

  records_end : RecordsEnd from (end_at (slice_get rest 256) settled) settled rest
  records_end =
      elim (slice_get_cases rest 256).1 [
        | inl found ↦ subst (λ o. RecordsEnd from (end_at o settled) settled rest) (sym found.2) (over found.0 found.1 found.3)
        | inr past ↦
            subst (λ o. RecordsEnd from (end_at o settled) settled rest) (sym past.1)
            (record {
              some = some;
              inside = omega arith;
              limit = omega (arith, filter-le-length (λ fact. nat_lt (count_of fact) settled) rest, past.0);
              far = inl refl;
            })
      ]

  pub ends : Ends from (end_of rest from settled) settled rest
  ends = cut_short from (end_at (slice_get rest 256) settled) settled rest records_end

-- ---- what is left, and the piece at its front

abbrev pub Left : ℕ → List Record → List Record → Type 0
Left from records rest = rest ≡ filter (λ fact. nat_le from (count_of fact)) records

abbrev pub IsPart : ℕ → List Record → List Record → Type 0
IsPart to rest part = part ≡ filter (λ fact. nat_lt (count_of fact) to) rest

abbrev pub parts_of : Origin → ℕ → ℕ → ℕ → List Record → FragmentParts
parts_of origin place from to part =
    record { guest = origin.guest; key = record { term = origin.term; hart = origin.hart; place = place }; from = from; to = to; records = part }

module _ (origin : Origin) (records : List Record) (mark : Mark) (may : MayCut origin records mark) (from : ℕ) (rest : List Record)
    (left : Left from records rest) where
  pub rest_logged : AreLogged origin.guest.harts origin.hart rest
  rest_logged = rw left (logged_filter origin.guest.harts origin.hart (λ fact. nat_le from (count_of fact)) records may.logged)

  pub rest_there : StandBetween from origin.settled rest
  rest_there =
      rw left
      (all_both (λ fact. nat_le from (count_of fact) ≡ true) (λ fact. (mark.count ≤ count_of fact) × (count_of fact < origin.settled))
      (λ fact. (from ≤ count_of fact) × (count_of fact < origin.settled)) (λ fact low there. (leb-true _ _ low, there.1))
      (filter (λ fact. nat_le from (count_of fact)) records) (kept_by_passes (λ fact. nat_le from (count_of fact)) records)
      (all_kept_by (λ fact. nat_le from (count_of fact)) (λ fact. (mark.count ≤ count_of fact) × (count_of fact < origin.settled)) records may.there))

  pub rest_ends : from < origin.settled → Ends from (end_of rest from origin.settled) origin.settled rest
  rest_ends some = ends origin.guest.harts origin.hart from origin.settled rest may.guest.limit rest_logged rest_there some

  module _ (to : ℕ) (right : Ends from to origin.settled rest) (part : List Record) (is_part : IsPart to rest part) where
    part_logged : AreLogged origin.guest.harts origin.hart part
    part_logged = rw is_part (logged_filter origin.guest.harts origin.hart (λ fact. nat_lt (count_of fact) to) rest rest_logged)

    each_record : (fact : Record) → nat_lt (count_of fact) to ≡ true → IsFactOf origin.guest.harts origin.hart fact × (from ≤ count_of fact) ×
        (count_of fact < origin.settled) →
        IsRecordOf origin.guest.harts origin.hart from to fact
    each_record fact less h = (h.0, h.1, ltb-true _ _ less)

    part_records : AreRecords origin.guest.harts origin.hart from to part
    part_records =
        record {
          limit = subst (λ l. length l ≤ 256) (sym is_part) right.limit;
          each =
              rw is_part
              (all_both (λ fact. nat_lt (count_of fact) to ≡ true) (λ fact. IsFactOf origin.guest.harts origin.hart fact × (from ≤ count_of fact) ×
              (count_of fact < origin.settled))
              (IsRecordOf origin.guest.harts origin.hart from to) each_record (filter (λ fact. nat_lt (count_of fact) to) rest)
              (kept_by_passes (λ fact. nat_lt (count_of fact) to) rest)
              (all_kept_by (λ fact. nat_lt (count_of fact) to) (λ fact. IsFactOf origin.guest.harts origin.hart fact × (from ≤ count_of fact) ×
              (count_of fact < origin.settled)) rest
              (all_both (IsFactOf origin.guest.harts origin.hart) (λ fact. (from ≤ count_of fact) × (count_of fact < origin.settled))
              (λ fact. IsFactOf origin.guest.harts origin.hart fact × (from ≤ count_of fact) × (count_of fact < origin.settled)) (λ fact a b. (a, b.0, b.1))
              rest rest_logged.each rest_there)));
          order = part_logged.order;
          inputs = part_logged.inputs;
        }

    pub part_rules : (place : ℕ) → place < 2 ^ 32 → IsFragment (parts_of origin place from to part)
    part_rules place below =
        record {
          guest = may.guest;
          key = record { hart = may.own; granted = may.granted; term = may.fits; place = below };
          some = right.some;
          end = (let high = may.end in let inside = right.inside in omega arith);
          short = λ more. right.short;
          noted = λ is. right.short;
          records = part_records;
        }

    -- those below an end, out of what is left, stand between two counts
    between_are : (end : ℕ) → filter (λ fact. nat_lt (count_of fact) end) rest ≡ filter (λ fact. is_between from end (count_of fact)) records
    between_are end =
        ap (filter (λ fact. nat_lt (count_of fact) end)) left ∙
        filter-filter (λ fact. nat_lt (count_of fact) end) (λ fact. nat_le from (count_of fact)) records

    facts_are : (end : ℕ) → told_by (filter (λ fact. nat_lt (count_of fact) end) rest) ≡ facts_between from end (told_by records)
    facts_are end = ap told_by (between_are end) ∙ told_between from end records

    number_is : (end : ℕ) → number_of (facts_between from end (told_by records)) ≡ length (filter (λ fact. nat_lt (count_of fact) end) rest)
    number_is end = sym (ap number_of (facts_are end)) ∙ number_told (filter (λ fact. nat_lt (count_of fact) end) rest)

    pub part_is_piece : (place : ℕ) → IsFragment (parts_of origin place from to part) →
        IsPiece (log_of_records origin records) (record { place = place; count = from }) (parts_of origin place from to part)
    part_is_piece place rules =
        record {
          rules = rules;
          same_guest = refl;
          key = refl;
          begins = refl;
          exact = ap told_by is_part ∙ facts_are to;
          short = right.short;
          far =
              elim right.far [
                | inl all ↦ inl all
                | inr (less, full) ↦ inr (less, elim full [ inl many ↦ inl (subst (λ n. 256 < n) (sym (number_is (to + 1))) many) | inr long ↦ inr long ])
              ];
        }

    pub left_behind : (later : List Record) → later ≡ filter (λ fact. nat_le to (count_of fact)) rest → Left to records later
    left_behind later is =
        is ∙
        (ap (filter (λ fact. nat_le to (count_of fact))) left ∙
        (filter-filter (λ fact. nat_le to (count_of fact)) (λ fact. nat_le from (count_of fact)) records ∙
        filter_agree (λ fact. nat_le from (count_of fact) && nat_le to (count_of fact)) (λ fact. nat_le to (count_of fact)) (λ fact. agree (count_of fact)
        (cases_lt (count_of fact) to)) records))
      where
        agree : (n : ℕ) → (n < to) ⊎ (to ≤ n) → (nat_le from n && nat_le to n) ≡ nat_le to n
        agree n (inl less) = let no = lt-leb to n less in and_right (nat_le from n) (nat_le to n) no ∙ sym no
        agree n (inr le) = let some = right.some in rw (le-leb from n (omega arith)) refl

-- ---- all pieces so far

-- The pieces so far were added to the frames, and the others are left: records are cut from the seals `old` on.
pub record SoFar (origin : Origin) (records : List Record) (old : SealedView) (before : List Frame) (seals : SealedView) (after : List Frame)
    (rest : List Record) (from : ℕ) : Type 0 where
  pub pieces : List FragmentParts
  pub added : after ≡ before ++ map Log pieces
  pub row : ArePieces (log_of_records origin records) (mark_of old origin.hart) pieces (mark_of seals origin.hart)
  pub reaches : from ≡ (mark_of seals origin.hart).count
  pub inside : from ≤ origin.settled
  pub left : Left from records rest
  pub others : (hart : ℕ) → hart ≢ origin.hart → mark_of seals hart ≡ mark_of old hart
  pub same_harts : length seals.reached ≡ length old.reached

all_left : (from settled : ℕ) (rs : List Record) → StandBetween from settled rs → Left from rs rs
all_left from settled rs there =
    sym
    (filter_all (λ fact. nat_le from (count_of fact)) rs
    (λ k d below. le-leb _ _ (All-from_recursion (λ fact. (from ≤ count_of fact) × (count_of fact < settled)) rs there k d below).0))

pub so_far_none : (origin : Origin) (records : List Record) (seals : SealedView) (frames : List Frame) (from : ℕ) → MayCut origin records
    (mark_of seals origin.hart) →
    from ≡ (mark_of seals origin.hart).count → SoFar origin records seals frames seals frames records from
so_far_none origin records seals frames from may is =
    record {
      pieces = [];
      added = sym (append-nil frames);
      row = refl;
      reaches = is;
      inside = rw is may.within;
      left = rw is (all_left (mark_of seals origin.hart).count origin.settled records may.there);
      others = λ hart ne. refl;
      same_harts = refl;
    }

row_push : (log : HartLog) (old : Mark) (pieces : List FragmentParts) (seen : Mark) (piece : FragmentParts) → ArePieces log old pieces seen →
    IsPiece log seen piece →
    ArePieces log old (pieces ++ piece ∷ []) (mark_behind piece)
row_push log old [] seen piece row is = (subst (λ m. IsPiece log m piece) row is, refl)
row_push log old (first ∷ pieces) seen piece row is = (row.0, row_push log (mark_behind first) pieces seen piece row.1 is)

-- the seals of one hart moved on, to a place and a count
pub record Advances (old : SealedView) (hart to : ℕ) (new : SealedView) : Type 0 where
  pub places : new.places ≡ set old.places hart (slice_index old.places hart + 1)
  pub reached : new.reached ≡ set old.reached hart to
  pub there : hart < length old.places
  pub known : hart < length old.reached

mark_here : (old : SealedView) (hart to : ℕ) (new : SealedView) → Advances old hart to new → mark_of new hart ≡ record {
  place = (mark_of old hart).place + 1;
  count = to;
}
mark_here old hart to new h =
    let place : slice_index new.places hart ≡ slice_index old.places hart + 1 =
    ap (λ l. slice_index l hart) h.places ∙ get_or-set_same old.places hart (slice_index old.places hart + 1) 0 h.there in
    let count : count_at new.reached hart ≡ to = ap (λ l. count_at l hart) h.reached ∙ get_or-set_same old.reached hart to 0 h.known in
    cc

mark_there : (old : SealedView) (hart to : ℕ) (new : SealedView) → Advances old hart to new → (other : ℕ) → other ≢ hart → mark_of new other ≡ mark_of old other
mark_there old hart to new h other ne =
    let place : slice_index new.places other ≡ slice_index old.places other =
    ap (λ l. slice_index l other) h.places ∙ get_or-set_other old.places hart other (slice_index old.places hart + 1) 0 ne in
    let count : count_at new.reached other ≡ count_at old.reached other = ap (λ l. count_at l other) h.reached ∙ get_or-set_other old.reached hart other to 0 ne
    in
    cc

module _ {origin : Origin} {records : List Record} {old : SealedView} {before : List Frame} {seals : SealedView} {after : List Frame} {rest : List
    Record} {from : ℕ}
    (may : MayCut origin records (mark_of old origin.hart)) (h : SoFar origin records old before seals after rest from) where
  pub order_left : AreLogged origin.guest.harts origin.hart rest
  order_left = rest_logged origin records (mark_of old origin.hart) may from rest h.left

module _ {origin : Origin} {records : List Record} {old : SealedView} {before : List Frame} {seals : SealedView} {after : List Frame} {rest : List
    Record} {from : ℕ}
    (may : MayCut origin records (mark_of old origin.hart)) (h : SoFar origin records old before seals after rest from) (some : from < origin.settled) where
  pub ends_left : Ends from (end_of rest from origin.settled) origin.settled rest
  ends_left = rest_ends origin records (mark_of old origin.hart) may from rest h.left some

  module _ {to : ℕ} (is_end : to ≡ end_of rest from origin.settled) {part : List Record} (is_part : IsPart to rest part) where
    right : Ends from to origin.settled rest
    right = rw is_end ends_left

    pub end_inside : (from < to) × (to ≤ origin.settled)
    end_inside = (right.some, right.inside)

    pub rules_of_part : (place : ℕ) → place < 2 ^ 32 → IsFragment (parts_of origin place from to part)
    rules_of_part = part_rules origin records (mark_of old origin.hart) may from rest h.left to right part is_part

    -- a piece more
    pub so_far_more : (new : SealedView) (frames : List Frame) (later : List Record) (place : ℕ) → place ≡ (mark_of seals origin.hart).place →
        place < 2 ^ 32 → frames ≡ after ++ Log (parts_of origin place from to part) ∷ [] → Advances seals origin.hart to new →
        later ≡ filter (λ fact. nat_le to (count_of fact)) rest → SoFar origin records old before new frames later to
    so_far_more new frames later place same below pushed moves behind =
        let piece : FragmentParts = parts_of origin place from to part in
        let mark : record { place = place; count = from } ≡ mark_of seals origin.hart =
        ap (λ n. record { place = n; count = from }) same ∙ ap (λ n. record { place = (mark_of seals origin.hart).place; count = n }) h.reaches in
        let is : IsPiece (log_of_records origin records) (mark_of seals origin.hart) piece =
        subst (λ m. IsPiece (log_of_records origin records) m piece) mark
        (part_is_piece origin records (mark_of old origin.hart) may from rest h.left to right part is_part place (rules_of_part place below)) in
        let next : mark_of new origin.hart ≡ mark_behind piece = mark_here seals origin.hart to new moves ∙ ap (λ n. record { place = n + 1; count = to })
        (sym same) in
        record {
          pieces = h.pieces ++ piece ∷ [];
          added =
              pushed ∙
              (ap (λ l. l ++ Log piece ∷ []) h.added ∙ (append_assoc before (map Log h.pieces) (Log piece ∷ []) ∙ ap (λ l. before ++ l)
              (sym (map-append Log h.pieces (piece ∷ [])))));
          row =
              subst (ArePieces (log_of_records origin records) (mark_of old origin.hart) (h.pieces ++ piece ∷ [])) (sym next)
              (row_push (log_of_records origin records) (mark_of old origin.hart) h.pieces (mark_of seals origin.hart) piece h.row is);
          reaches = sym (ap (λ m. m.count) next);
          inside = right.inside;
          left = left_behind origin records (mark_of old origin.hart) may from rest h.left to right part is_part later behind;
          others = λ hart ne. mark_there seals origin.hart to new moves hart ne ∙ h.others hart ne;
          same_harts = ap length moves.reached ∙ (length-set seals.reached origin.hart to ∙ h.same_harts);
        }

-- the end: all are cut, or no place is left
pub so_far_all : (origin : Origin) (records : List Record) (old : SealedView) (before : List Frame) (seals : SealedView) (after : List Frame)
    (rest : List Record) (from : ℕ) →
    SoFar origin records old before seals after rest from → (origin.settled ≤ from) ⊎ ((mark_of seals origin.hart).place ≡ 2 ^ 32) →
    CutsHart (log_of_records origin records) old before seals after
so_far_all origin records old before seals after rest from h end =
    record {
      pieces = h.pieces;
      added = h.added;
      cut =
          record {
            row = h.row;
            end =
                elim end [
                  | inl all ↦ inl (let inside = h.inside in let reaches = h.reaches in omega arith)
                  | inr none ↦ inr none
                ];
          };
      others = h.others;
      same_harts = h.same_harts;
    }
