-- The facts of a hart below an end, as those below an earlier one and what came between.
use Rattle.std.proofs.Common.{◌≡◌, ◌⊎◌, inl, inr, ℕ, zero, suc, ◌+◌, ◌<◌, ◌≤◌, List, [], ◌∷◌, ◌++◌, All, refl, sym, ap, subst, ◌∙◌, arith}
use Rattle.std.proofs.Common.{add-one, append-nil, append_assoc, lt-ltb, le-ltb, le_trans}
use Rattle.std.proofs.lemmas.Bool.{cases_lt, le-leb, lt-leb}
use Rattle.std.proofs.lemmas.List.Elements.{All-head, All-tail, All-weaker, All-from_recursion}
use Rattle.fragment_codec.specs.declared.types.Record.{Record}
use Rattle.fragment_codec.specs.Rules.{FragmentParts, IsFragment, IsRecordOf, AreInOrder, count_of}
use Rattle.log_join.specs.Cells.{Cell, One}
use Rattle.closed_cut.specs.Position.{Goes}
use Rattle.closed_cut.proofs.Walking.{one_same}
use Rattle.hart_replay.specs.Facts.{records_in, records_of, below}
use Rattle.hart_replay.specs.machinery.Taking.{between}
use Rattle.hart_replay.proofs.gathering.Records.{later, below-append}

-- ---- records that are all early, or all late

all_below : (end : ℕ) (rs : List Record) → All (λ r. count_of r < end) rs → below end rs ≡ rs
all_below end [] all = refl
all_below end (r ∷ rs) all =
    rw (lt-ltb (count_of r) end (All-head (λ r. count_of r < end) r rs all))
    (ap (λ l. r ∷ l) (all_below end rs (All-tail (λ r. count_of r < end) r rs all)))

none_below : (end : ℕ) (rs : List Record) → All (λ r. end ≤ count_of r) rs → below end rs ≡ []
none_below end [] all = refl
none_below end (r ∷ rs) all =
    rw (le-ltb (count_of r) end (All-head (λ r. end ≤ count_of r) r rs all)) (none_below end rs (All-tail (λ r. end ≤ count_of r) r rs all))

none_between : (from end : ℕ) (rs : List Record) → All (λ r. count_of r < from) rs → between from end rs ≡ []
none_between from end [] all = refl
none_between from end (r ∷ rs) all =
    rw (lt-leb from (count_of r) (All-head (λ r. count_of r < from) r rs all)) (none_between from end rs (All-tail (λ r. count_of r < from) r rs all))

late_between : (from end : ℕ) (rs : List Record) → All (λ r. from ≤ count_of r) rs → between from end rs ≡ below end rs
late_between from end [] all = refl
late_between from end (r ∷ rs) all =
    let up = All-head (λ r. from ≤ count_of r) r rs all in
    let rest = late_between from end rs (All-tail (λ r. from ≤ count_of r) r rs all) in
    elim (cases_lt (count_of r) end) [
      | inl under ↦ rw (le-leb from (count_of r) up, lt-ltb (count_of r) end under) (ap (λ l. r ∷ l) rest)
      | inr over ↦ rw (le-leb from (count_of r) up, le-ltb (count_of r) end over) rest
    ]

-- of records in order, those below the end are those below an earlier count, and then those between
pub splits : (from end : ℕ) (rs : List Record) → AreInOrder rs → from ≤ end → below end rs ≡ below from rs ++ between from end rs
splits from end [] order le = refl
splits from end (r ∷ rs) order le =
    elim (cases_lt (count_of r) from) [
      | inl early ↦
          let under : count_of r < end = omega (arith, early, le) in
          rw (lt-ltb (count_of r) end under, lt-ltb (count_of r) from early, lt-leb from (count_of r) early)
          (ap (λ l. r ∷ l) (splits from end rs order.1 le))
      | inr late ↦
          let behind : All (λ s. count_of r ≤ count_of s) rs = later (r ∷ rs) 0 r order (omega arith) refl in
          let all : All (λ s. from ≤ count_of s) rs = All-weaker (λ s. count_of r ≤ count_of s) (λ s. from ≤ count_of s) (λ s l. le_trans late l) rs behind in
          let none = none_below from rs all in
          let rest = late_between from end rs all in
          elim (cases_lt (count_of r) end) [
            | inl under ↦
                rw (lt-ltb (count_of r) end under, le-ltb (count_of r) from late, le-leb from (count_of r) late, none) (ap (λ l. r ∷ l) (sym rest))
            | inr over ↦ rw (le-ltb (count_of r) end over, le-ltb (count_of r) from late, le-leb from (count_of r) late, none) (sym rest)
          ]
    ]

-- the facts below the end, as those below an earlier one and what was added; nothing was, or the walk is past the earlier one
pub record HasAdded (pieces : ℕ → Cell FragmentParts) (from end n at : ℕ) (added : List Record) : Type 0 where
  pub is : below end (records_of pieces n) ≡ below from (records_of pieces n) ++ added
  pub past : (added ≡ []) ⊎ (from ≤ at)

-- ---- along a walk

module _ (pieces : ℕ → Cell FragmentParts) (fits : (place : ℕ) (f : FragmentParts) → pieces place ≡ One f → IsFragment f) (base : ℕ) where
  -- a piece's records are at its counts
  pub from_piece : (place : ℕ) (f : FragmentParts) (k : ℕ) → pieces place ≡ One f → k ≤ f.from → All (λ r. k ≤ count_of r) f.records
  from_piece place f k one le =
      All-weaker (IsRecordOf f.guest.harts f.key.hart f.from f.to) (λ r. k ≤ count_of r) (λ r own. omega (arith, own.1, le)) f.records
      (All-from_recursion (IsRecordOf f.guest.harts f.key.hart f.from f.to) f.records (fits place f one).records.each)

  pub to_piece : (place : ℕ) (f : FragmentParts) (k : ℕ) → pieces place ≡ One f → f.to ≤ k → All (λ r. count_of r < k) f.records
  to_piece place f k one le =
      All-weaker (IsRecordOf f.guest.harts f.key.hart f.from f.to) (λ r. count_of r < k) (λ r own. omega (arith, own.2, le)) f.records
      (All-from_recursion (IsRecordOf f.guest.harts f.key.hart f.from f.to) f.records (fits place f one).records.each)

  -- two walks over as many places come to one end
  pub same_end : (m at end : ℕ) → Goes pieces base m at → Goes pieces base m end → at ≡ end
  same_end zero at end goes walk = omega (arith, goes, walk)
  same_end (suc m) at end (x, a, one, is) (y, b, two, so) = let e : x.to ≡ y.to = ap (λ f. f.to) (one_same one two) in omega (arith, is, so, e)

  -- a longer walk comes no less far
  pub further : (n at m end : ℕ) → Goes pieces base n at → Goes pieces base m end → n ≤ m → at ≤ end
  further n at zero end goes walk le =
      let same : n ≡ 0 = omega (arith, le) in
      let e = same_end 0 at end (subst (λ k. Goes pieces base k at) same goes) walk in omega (arith, e)
  further n at (suc m) end goes (y, walk, one, is) le =
      elim (cases_lt m n) [
        | inl last ↦
            (let same : n ≡ suc m = omega (arith, le, last) in
            let e = same_end (suc m) at end (subst (λ k. Goes pieces base k at) same goes) (y, walk, one, is) in omega (arith, e))
        | inr more ↦ (let before = further n at m y.from goes walk more in let some = (fits m y one).some in omega (arith, before, is, some))
      ]

  -- one that comes further goes over no fewer places
  pub longer : (n at m end : ℕ) → Goes pieces base n at → Goes pieces base m end → at < end → n < m
  longer n at m end goes walk less =
      elim (cases_lt n m) [
        | inl more ↦ more
        | inr few ↦ let no = further m end n at walk goes few in absurd (omega (arith, no, less))
      ]

  -- what lies behind a walk has nothing below its end
  pub none_behind : (n at places far k : ℕ) → Goes pieces base n at → Goes pieces base places far → n ≤ places → k ≤ at →
      below k (records_of pieces places) ≡ below k (records_of pieces n)
  none_behind n at zero far k goes walk le under = let same : n ≡ 0 = omega (arith, le) in rw same refl
  none_behind n at (suc m) far k goes (x, before, one, is) le under =
      elim (cases_lt m n) [
        | inl last ↦ (let same : n ≡ suc m = omega (arith, le, last) in rw same refl)
        | inr more ↦
            (let up : at ≤ x.from = further n at m x.from goes before more in
            below-append k (records_of pieces m) (records_in (pieces m)) ∙
            (ap (λ c. below k (records_of pieces m) ++ below k (records_in c)) one ∙
            (ap (λ l. below k (records_of pieces m) ++ l) (none_below k x.records (from_piece m x k one (omega (arith, under, up)))) ∙
            (append-nil (below k (records_of pieces m)) ∙ none_behind n at m x.from k goes before more under))))
      ]

  -- ---- what was added on the way

  -- at first nothing, where the walk has not come past the earlier end
  pub nothing_added : (from end n at : ℕ) → Goes pieces base n at → at ≤ from → from ≤ end → HasAdded pieces from end n at []
  nothing_added from end n at goes le up =
      record { is = all n at goes le ∙ sym (append-nil (below from (records_of pieces n))); past = inl refl }
    where
      all : (n at : ℕ) → Goes pieces base n at → at ≤ from → below end (records_of pieces n) ≡ below from (records_of pieces n)
      all zero at goes le = refl
      all (suc n) at (x, goes, one, is) le =
          let some = (fits n x one).some in
          let early = to_piece n x from one (omega (arith, is, le)) in
          let both : below end x.records ≡ below from x.records =
          all_below end x.records (All-weaker (λ r. count_of r < from) (λ r. count_of r < end) (λ r l. omega (arith, l, up)) x.records early) ∙
          sym (all_below from x.records early) in
          below-append end (records_of pieces n) (records_in (pieces n)) ∙
          (ap (λ c. below end (records_of pieces n) ++ below end (records_in c)) one ∙
          (ap (λ l. l ++ below end x.records) (all n x.from goes (omega (arith, is, le, some))) ∙
          (ap (λ l. below from (records_of pieces n) ++ l) both ∙
          (ap (λ c. below from (records_of pieces n) ++ below from (records_in c)) (sym one) ∙
          sym (below-append from (records_of pieces n) (records_in (pieces n)))))))

  module _ (from end n at : ℕ) (added : List Record) (so_far : HasAdded pieces from end n at added) (f : FragmentParts) (one : pieces n ≡ One f)
      (begins : f.from ≡ at) (le : from ≤ end) where
    abbrev more : List Record
    more = between from end f.records

    abbrev was : List Record
    was = below from (records_of pieces n)

    next_below : (k : ℕ) → below k (records_of pieces (suc n)) ≡ below k (records_of pieces n) ++ below k f.records
    next_below k =
        below-append k (records_of pieces n) (records_in (pieces n)) ∙ ap (λ c. below k (records_of pieces n) ++ below k (records_in c)) one

    -- one more piece
    here : (past : (added ≡ []) ⊎ (from ≤ at)) → below end (records_of pieces (suc n)) ≡ below from (records_of pieces (suc n)) ++ (added ++ more)
    here (inl nothing) =
        next_below end ∙
        (ap (λ l. l ++ below end f.records) (so_far.is ∙ (ap (λ l. was ++ l) nothing ∙ append-nil was)) ∙
        (ap (λ l. was ++ l) (splits from end f.records (fits n f one).records.order le) ∙
        (sym (append_assoc was (below from f.records) more) ∙
        (ap (λ l. l ++ more) (sym (next_below from)) ∙
        ap (λ l. below from (records_of pieces (suc n)) ++ (l ++ more)) (sym nothing)))))
    here (inr past) =
        let late = from_piece n f from one (omega (arith, begins, past)) in
        let none : below from (records_of pieces (suc n)) ≡ was = next_below from ∙ (ap (λ l. was ++ l) (none_below from f.records late) ∙ append-nil was) in
        next_below end ∙
        (ap (λ l. l ++ below end f.records) so_far.is ∙
        (ap (λ l. (was ++ added) ++ l) (sym (late_between from end f.records late)) ∙
        (append_assoc was added more ∙ ap (λ l. l ++ (added ++ more)) (sym none))))

    past_it : (past : (added ≡ []) ⊎ (from ≤ at)) → (added ++ more ≡ []) ⊎ (from ≤ f.to)
    past_it (inr past) = let some = (fits n f one).some in inr (omega (arith, begins, past, some))
    past_it (inl nothing) =
        elim (cases_lt f.to from) [
          | inr upto ↦ inr upto
          | inl early ↦ inl (ap (λ l. l ++ more) nothing ∙ none_between from end f.records (to_piece n f from one (omega (arith, early))))
        ]

    pub added_more : HasAdded pieces from end (n + 1) f.to (added ++ more)
    added_more = rw add-one (record { is = here so_far.past; past = past_it so_far.past })

  -- where the walk has come to the end, that is all that a longer one has
  pub all_added : (from end n at : ℕ) (added : List Record) → HasAdded pieces from end n at added → Goes pieces base n at → from ≤ end → end ≤ at →
      (places far : ℕ) → Goes pieces base places far → end ≤ far → n ≤ places →
      below end (records_of pieces places) ≡ below from (records_of pieces places) ++ added
  all_added from end n at added so_far goes le upto places far walk reach many =
      none_behind n at places far end goes walk many upto ∙
      (so_far.is ∙ ap (λ l. l ++ added) (sym (none_behind n at places far from goes walk many (le_trans le upto))))
