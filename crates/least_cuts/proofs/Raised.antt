-- Counts that are raised edge by edge, hart by hart, until no edge asks for more.
use Rattle.std.proofs.Common.{◌≡◌, ◌⊎◌, ◌++◌, ◌||◌, inl, inr, ℕ, zero, suc, ◌+◌, ◌-◌, ◌<◌, ◌≤◌, Bool, true, false, List, [], ◌∷◌, length, length-set, set, take, slice_get, slice_index_or, sum, All, Contains, refl, ap, sym, subst, ◌∙◌, arith}
use Rattle.std.proofs.Math.ListN.{get_or-eq_default}
use Rattle.std.proofs.lemmas.Bool.{cases_lt}
use Rattle.std.proofs.lemmas.List.{get_or-set_same, get_or-set_other}
use Rattle.std.proofs.lemmas.List.Elements.{All-contains, All-append, All-from_recursion}
use Rattle.ft_types.specs.Counts.{count_at}
use Rattle.interleaving.specs.Lists.{IsWithin}
use Rattle.interleaving.specs.Log.{Edge as TheoryEdge, IsClosed, IsCut}
use Rattle.interleaving.proofs.Put.{same_or_not}
use Rattle.edge_log.specs.declared.Edge.{Edge}
use Rattle.edge_log.specs.EdgeLog.{IsLog, row_of, edge_as}
use Rattle.edge_log.proofs.Logs.{in_row, of_row, to_edges}
use Rattle.log_audit.proofs.Lists.{get_at, take_more}
use Rattle.hart_replay.specs.declared.plans.PlannedLeg.{PlannedLeg}
use Rattle.hart_replay.specs.Plans.{IsLeg, log_of}
use Rattle.least_cuts.proofs.Sums.{upto_sum, upto_within, sum_more}
use Rattle.least_cuts.specs.machinery.Raising.{IsRaised, IsRaisedBy, AreMetOf, RaisesFor, Raises, IsLeastAbove}

-- a greater count in place of one adds to the sum
pub sum_put : (xs : List ℕ) (i x : ℕ) → i < length xs → count_at xs i < x → sum xs < sum (set xs i x)
sum_put [] i x lt more = absurd (omega (arith, lt))
sum_put (y ∷ xs) zero x lt more =
    let less : y < x = more in
    let before = sum_more y xs in
    let after : sum (set (y ∷ xs) zero x) ≡ x + sum xs = sum_more x xs in
    omega (arith, less, before, after)
sum_put (y ∷ xs) (suc i) x lt more =
    let rest = sum_put xs i x (omega (arith, lt)) more in
    let before = sum_more y xs in
    let after : sum (set (y ∷ xs) (suc i) x) ≡ y + sum (set xs i x) = sum_more y (set xs i x) in
    omega (arith, rest, before, after)

-- a count that was put in its place
put_at : (xs : List ℕ) (i x h : ℕ) → i < length xs → ((i ≡ h) × (count_at (set xs i x) h ≡ x)) ⊎ (count_at (set xs i x) h ≡ count_at xs h)
put_at xs i x h there =
    elim (same_or_not i h) [
      | inl same ↦ inl (same, ap (count_at (set xs i x)) (sym same) ∙ get_or-set_same xs i x 0 there)
      | inr ne ↦ inr (get_or-set_other xs i h x 0 (λ eq. ne (sym eq)))
    ]

module _ (leg : PlannedLeg) where
  pub raised_none : (old : List ℕ) → IsRaised leg old old
  raised_none old = record { harts = refl; more = λ h. omega arith; least = λ other closed within. within }

  -- one edge of a step below the old counts asks for more
  pub raised_one : (old mid : List ℕ) (e : Edge) → IsRaised leg old mid → Contains (log_of leg).edges (edge_as e) → e.at < count_at old e.hart →
      count_at mid e.other < e.after → e.other < length mid → IsRaised leg old (set mid e.other e.after)
  raised_one old mid e so_far has below asks there =
      record {
        harts = length-set mid e.other e.after ∙ so_far.harts;
        more = λ h.
            let before = so_far.more h in
            elim (put_at mid e.other e.after h there) [
              | inl (same, put) ↦ let is : count_at mid e.other ≡ count_at mid h = ap (count_at mid) same in omega (arith, before, put, is, asks)
              | inr kept ↦ omega (arith, before, kept)
            ];
        least = λ other closed within h.
            elim (put_at mid e.other e.after h there) [
              | inl (same, put) ↦
                  let own = within e.hart in
                  let le : e.after ≤ other e.other = closed (edge_as e) has (omega (arith, below, own)) in
                  let is : other e.other ≡ other h = ap other same in
                  omega (arith, put, le, is)
              | inr kept ↦ let le = so_far.least other closed within h in omega (arith, kept, le)
            ];
      }

  -- one raising after another
  pub raised_again : (old mid new : List ℕ) → IsRaised leg old mid → IsRaised leg mid new → IsRaised leg old new
  raised_again old mid new first second =
      record {
        harts = second.harts ∙ first.harts;
        more = λ h. let a = first.more h in let b = second.more h in omega (arith, a, b);
        least = λ other closed within. second.least other closed (first.least other closed within);
      }

  -- the counts stay within the leg's ends
  pub raised_within : (many : ℕ) (old new : List ℕ) → IsLeg many leg → IsRaised leg old new → IsWithin (count_at old) (count_at leg.ends) →
      IsWithin (count_at new) (count_at leg.ends)
  raised_within many old new is raised within = raised.least (count_at leg.ends) is.cut.closed within

-- ---- the edges of one hart

-- as far as these edges of a hart, the counts of whose steps end here
abbrev pub RaisedSo : PlannedLeg → ℕ → List ℕ → List Edge → Bool → List ℕ → Type 0
RaisedSo leg end old done true new = IsRaised leg old new × (sum old < sum new)
RaisedSo leg end old done false new = (new ≡ old) × All (λ e. e.at < end → e.after ≤ count_at old e.other) done

module _ (leg : PlannedLeg) (end : ℕ) (old : List ℕ) (done : List Edge) where
  so_raised : (b : Bool) (mid new : List ℕ) (e : Edge) (more : List Edge) → RaisedSo leg end old done b mid → end ≡ count_at old e.hart →
      Contains (log_of leg).edges (edge_as e) → e.other < length mid → IsRaisedBy e end mid new → RaisedSo leg end old more true new
  so_raised true mid new e more so_far is has there by =
      let below = by.below in
      let adds = sum_put mid e.other e.after there by.asks in
      let before = so_far.1 in
      let same : sum new ≡ sum (set mid e.other e.after) = ap sum by.raised in (
        subst (λ (m : List ℕ). IsRaised leg old m) (sym by.raised) (raised_one leg old mid e so_far.0 has (omega (arith, below, is)) by.asks there),
        omega (arith, adds, before, same),
      )
  so_raised false mid new e more so_far is has there by =
      let below = by.below in
      let adds = sum_put mid e.other e.after there by.asks in
      let before : sum mid ≡ sum old = ap sum so_far.0 in
      let same : sum new ≡ sum (set mid e.other e.after) = ap sum by.raised in
      let none = subst (λ (m : List ℕ). IsRaised leg old m) (sym so_far.0) (raised_none leg old) in (
        subst (λ (m : List ℕ). IsRaised leg old m) (sym by.raised) (raised_one leg old mid e none has (omega (arith, below, is)) by.asks there),
        omega (arith, adds, before, same),
      )

  so_kept : (b : Bool) (mid : List ℕ) (e : Edge) → RaisedSo leg end old done b mid → (e.at < end → e.after ≤ count_at mid e.other) →
      RaisedSo leg end old (done ++ e ∷ []) b mid
  so_kept true mid e so_far met = so_far
  so_kept false mid e so_far met =
      (so_far.0, all_more (subst (λ (m : List ℕ). e.at < end → e.after ≤ count_at m e.other) so_far.0 met))
    where
      all_more : (e.at < end → e.after ≤ count_at old e.other) → All (λ x. x.at < end → x.after ≤ count_at old x.other) (done ++ e ∷ [])
      all_more one =
          All-append (λ x. x.at < end → x.after ≤ count_at old x.other) done (e ∷ []) so_far.1
          (All-from_recursion (λ x. x.at < end → x.after ≤ count_at old x.other) (e ∷ []) (one, tt))

  -- one edge more
  pub so_next : (b raised : Bool) (mid new : List ℕ) (e : Edge) → RaisedSo leg end old done b mid → end ≡ count_at old e.hart →
      Contains (log_of leg).edges (edge_as e) → e.other < length mid → (raised ≡ true → IsRaisedBy e end mid new) → (raised ≡ false → new ≡ mid) →
      (raised ≡ false → e.at < end → e.after ≤ count_at mid e.other) → RaisedSo leg end old (done ++ e ∷ []) (b || raised) new
  so_next true true mid new e so_far is has there by kept met = so_raised true mid new e (done ++ e ∷ []) so_far is has there (by refl)
  so_next false true mid new e so_far is has there by kept met = so_raised false mid new e (done ++ e ∷ []) so_far is has there (by refl)
  so_next true false mid new e so_far is has there by kept met =
      subst (λ (m : List ℕ). RaisedSo leg end old (done ++ e ∷ []) true m) (sym (kept refl)) (so_kept true mid e so_far (met refl))
  so_next false false mid new e so_far is has there by kept met =
      subst (λ (m : List ℕ). RaisedSo leg end old (done ++ e ∷ []) false m) (sym (kept refl)) (so_kept false mid e so_far (met refl))

-- an edge of the hart's row is to one of the leg's harts
pub other_there : (leg : PlannedLeg) (many hart : ℕ) (e : Edge) → IsLeg many leg → IsLog leg.edges.start leg.edges.rows → Contains (row_of leg.edges hart) e →
    e.other < many
other_there leg many hart e is rules has =
    let lt = (of_row leg.edges.start leg.edges.rows rules hart e has).other in
    let size : length leg.edges.start ≡ many = ap length is.start ∙ is.harts in
    omega (arith, lt, size)

-- and asks for a count, where its step is below counts that are within the leg's ends
pub asks_count : (leg : PlannedLeg) (many hart end limit : ℕ) (old : List ℕ) (e : Edge) → IsLeg many leg → IsLog leg.edges.start leg.edges.rows →
    Contains (row_of leg.edges hart) e → end ≡ count_at old hart → IsWithin (count_at old) (count_at leg.ends) → count_at leg.ends e.other < limit →
    e.at < end → e.after < limit
asks_count leg many hart end limit old e is rules has end_is within below lt =
    let own = (of_row leg.edges.start leg.edges.rows rules hart e has).own in
    let most = within hart in
    let same : count_at leg.ends e.hart ≡ count_at leg.ends hart = ap (count_at leg.ends) own in
    let le : e.after ≤ count_at leg.ends e.other =
    is.cut.closed (edge_as e) (to_edges leg.edges.rows hart e has) (omega (arith, lt, end_is, most, same)) in
    omega (arith, le, below)

-- ---- from the row that was gone through

-- an edge that was read there is of the row
pub in_items : (leg : PlannedLeg) (hart i : ℕ) (items : List Edge) (e : Edge) → items ≡ row_of leg.edges hart → e ≡ slice_index_or items i e →
    i < length items → Contains (row_of leg.edges hart) e
in_items leg hart i items e are is lt = subst (λ (l : List Edge). Contains l e) are (i, lt, sym is)

so_many : (leg : PlannedLeg) (end : ℕ) (old : List ℕ) (done : List Edge) (b : Bool) (mid : List ℕ) → RaisedSo leg end old done b mid → length mid ≡ length old
so_many leg end old done true mid so = so.0.harts
so_many leg end old done false mid so = ap length so.0

module _ (leg : PlannedLeg) (many hart end i : ℕ) (old mid : List ℕ) (b : Bool) (items : List Edge) (e : Edge) (is_leg : IsLeg many leg)
    (all : many ≡ length old) (rules : IsLog leg.edges.start leg.edges.rows) (are : items ≡ row_of leg.edges hart) (is : e ≡ slice_index_or items i e)
    (lt : i < length items) (end_is : end ≡ count_at old hart) (so_far : RaisedSo leg end old (take i (row_of leg.edges hart)) b mid) where
  has : Contains (row_of leg.edges hart) e
  has = in_items leg hart i items e are is lt

  pub row_other : e.other < length mid
  row_other =
      let below = other_there leg many hart e is_leg rules has in
      let same = so_many leg end old (take i (row_of leg.edges hart)) b mid so_far in
      omega (arith, below, same, all)

  pub row_next : (raised : Bool) (new : List ℕ) → (raised ≡ true → IsRaisedBy e end mid new) → (raised ≡ false → new ≡ mid) →
      (raised ≡ false → e.at < end → e.after ≤ count_at mid e.other) → RaisedSo leg end old (take (i + 1) (row_of leg.edges hart)) (b || raised) new
  row_next raised new by kept met =
      subst (λ (done : List Edge). RaisedSo leg end old done (b || raised) new)
      (sym (take_more (row_of leg.edges hart) i e (ap (λ (l : List Edge). slice_get l i) (sym are) ∙ get_at items i e is lt)))
      (so_next leg end old (take i (row_of leg.edges hart)) b raised mid new e so_far
      (end_is ∙ ap (count_at old) (sym (of_row leg.edges.start leg.edges.rows rules hart e has).own)) (to_edges leg.edges.rows hart e has) row_other by kept met)

-- once all edges of the hart were looked at
pub so_all : (leg : PlannedLeg) (hart end : ℕ) (old : List ℕ) (b : Bool) (new : List ℕ) → IsLog leg.edges.start leg.edges.rows → end ≡ count_at old hart →
    RaisedSo leg end old (row_of leg.edges hart) b new → RaisesFor leg hart old b new
so_all leg hart end old true new rules is so = so
so_all leg hart end old false new rules is so = (
  so.0,
  λ e has own below.
      let (x, stands, same) = in_row leg.edges.start leg.edges.rows rules e has in
      let here : Contains (row_of leg.edges hart) x = subst (λ (h : ℕ). Contains (row_of leg.edges h) x) own stands in
      let at : x.at ≡ e.step = ap (λ (y : TheoryEdge). y.step) same in
      let asks : x.after ≡ e.count = ap (λ (y : TheoryEdge). y.count) same in
      let of_other : count_at old x.other ≡ count_at old e.other = ap (λ (y : TheoryEdge). count_at old y.other) same in
      let le = All-contains (λ (y : Edge). y.at < end → y.after ≤ count_at old y.other) (row_of leg.edges hart) x so.1 here (omega (arith, at, below, is)) in
      omega (arith, le, asks, of_other),
)

-- ---- hart by hart

pub raises_next : (leg : PlannedLeg) (many : ℕ) (old mid new : List ℕ) (before raised : Bool) → Raises leg many old before mid →
    RaisesFor leg many mid raised new → Raises leg (many + 1) old (before || raised) new
raises_next leg many old mid new true true so_far next =
    let a = so_far.1 in let b = next.1 in (raised_again leg old mid new so_far.0 next.0, omega (arith, a, b))
raises_next leg many old mid new true false so_far next = (
  subst (λ (m : List ℕ). IsRaised leg old m) (sym next.0) so_far.0,
  subst (λ (m : List ℕ). sum old < sum m) (sym next.0) so_far.1,
)
raises_next leg many old mid new false true so_far next = (
  subst (λ (m : List ℕ). IsRaised leg m new) so_far.0 next.0,
  subst (λ (m : List ℕ). sum m < sum new) so_far.0 next.1,
)
raises_next leg many old mid new false false so_far next = (
  next.0 ∙ so_far.0,
  λ hart lt.
      elim (cases_lt hart many) [
        | inl below ↦ so_far.1 hart below
        | inr le ↦
            let same : many ≡ hart = omega (arith, lt, le) in
            subst (λ (h : ℕ). AreMetOf leg h old) same (subst (λ (m : List ℕ). AreMetOf leg many m) so_far.0 next.1)
      ],
)

pub raises_within : (leg : PlannedLeg) (many so_many : ℕ) (old mid : List ℕ) (raised : Bool) → IsLeg many leg → Raises leg so_many old raised mid →
    IsWithin (count_at old) (count_at leg.ends) → IsWithin (count_at mid) (count_at leg.ends)
raises_within leg many so_many old mid true is so_far within = raised_within leg many old mid is so_far.0 within
raises_within leg many so_many old mid false is so_far within =
    subst (λ (m : List ℕ). IsWithin (count_at m) (count_at leg.ends)) (sym so_far.0) within

-- ---- until no edge asks for more

-- on the way to the least closed cut of the leg at which the hart has so many steps or more
pub record IsOnTheWay (leg : PlannedLeg) (hart steps : ℕ) (counts : List ℕ) : Type 0 where
  pub harts : length counts ≡ length leg.base
  pub from_base : IsWithin (count_at leg.base) (count_at counts)
  pub within : IsWithin (count_at counts) (count_at leg.ends)
  pub count : steps ≤ count_at counts hart
  pub least : (other : ℕ → ℕ) → IsCut (log_of leg) other → steps ≤ other hart → IsWithin (count_at counts) other

module _ (leg : PlannedLeg) (is : IsLeg (length leg.base) leg) (hart steps : ℕ) where
  pub way_begins : hart < length leg.base → count_at leg.base hart ≤ steps → steps ≤ count_at leg.ends hart →
      IsOnTheWay leg hart steps (set leg.base hart steps)
  way_begins there from end =
      record {
        harts = length-set leg.base hart steps;
        from_base = λ h.
            elim (put_at leg.base hart steps h there) [
              | inl (same, put) ↦ let eq : count_at leg.base hart ≡ count_at leg.base h = ap (count_at leg.base) same in omega (arith, put, eq, from)
              | inr kept ↦ omega (arith, kept)
            ];
        within = λ h.
            elim (put_at leg.base hart steps h there) [
              | inl (same, put) ↦ let eq : count_at leg.ends hart ≡ count_at leg.ends h = ap (count_at leg.ends) same in omega (arith, put, eq, end)
              | inr kept ↦ let base : count_at leg.base h ≤ count_at leg.ends h = is.cut.from_start h in omega (arith, kept, base)
            ];
        count = let put : count_at (set leg.base hart steps) hart ≡ steps = get_or-set_same leg.base hart steps 0 there in omega (arith, put);
        least = λ other cut le h.
            elim (put_at leg.base hart steps h there) [
              | inl (same, put) ↦ let eq : other hart ≡ other h = ap other same in omega (arith, put, eq, le)
              | inr kept ↦ let base : count_at leg.base h ≤ other h = cut.from_start h in omega (arith, kept, base)
            ];
      }

  pub way_on : (old new : List ℕ) → IsOnTheWay leg hart steps old → IsRaised leg old new → IsOnTheWay leg hart steps new
  way_on old new way raised =
      record {
        harts = raised.harts ∙ way.harts;
        from_base = λ h. let a = way.from_base h in let b = raised.more h in omega (arith, a, b);
        within = raised_within leg (length leg.base) old new is raised way.within;
        count = let a = way.count in let b = raised.more hart in omega (arith, a, b);
        least = λ other cut le. raised.least other cut.closed (way.least other cut le);
      }

  -- the counts' sum is no greater than that of the leg's ends
  pub way_sum : (counts : List ℕ) → IsOnTheWay leg hart steps counts → sum counts ≤ sum leg.ends
  way_sum counts way =
      let own = upto_sum counts (length counts + length leg.ends) (omega arith) in
      let ends = upto_sum leg.ends (length counts + length leg.ends) (omega arith) in
      let le = upto_within (count_at counts) (count_at leg.ends) (length counts + length leg.ends) way.within in
      omega (arith, own, ends, le)

  pub way_ends : (counts : List ℕ) → IsOnTheWay leg hart steps counts → ((h : ℕ) → h < length counts → AreMetOf leg h counts) →
      IsLeastAbove leg hart steps counts
  way_ends counts way met =
      record {
        harts = way.harts;
        cut = record { from_start = way.from_base; to_end = way.within; closed = closed };
        count = way.count;
        least = way.least;
      }
    where
      closed : IsClosed (log_of leg).edges (count_at counts)
      closed e has below =
          elim (cases_lt e.hart (length counts)) [
            | inl lt ↦ met e.hart lt e has refl below
            | inr le ↦ let none : count_at counts e.hart ≡ 0 = get_or-eq_default counts 0 le in absurd (omega (arith, none, below))
          ]

  -- the counts were raised, and their sum comes nearer to that of the ends
  pub way_more : (old new : List ℕ) (raised : Bool) (many : ℕ) → raised ≡ true → IsOnTheWay leg hart steps old → Raises leg many old raised new →
      IsOnTheWay leg hart steps new × (sum leg.ends - sum new < sum leg.ends - sum old)
  way_more old new true many is way so =
      let next = way_on old new way so.0 in
      let more = so.1 in
      let most = way_sum new next in
      (next, omega (arith, more, most))
  way_more old new false many is way so = cc

  -- they were not
  pub way_done : (old new : List ℕ) (raised : Bool) (many : ℕ) → raised ≡ false → many ≡ length old → IsOnTheWay leg hart steps old →
      Raises leg many old raised new → IsLeastAbove leg hart steps new
  way_done old new true many is all way so = cc
  way_done old new false many is all way so =
      subst (λ (m : List ℕ). IsLeastAbove leg hart steps m) (sym so.0) (way_ends old way (λ h lt. so.1 h (omega (arith, all, lt))))
