-- What a store keeps when a piece comes at a key at which nothing was.
use Rattle.std.proofs.Common.{◌≡◌, ◌⊎◌, inl, inr, ℕ, zero, suc, ◌+◌, ◌<◌, ◌≤◌, ◌^◌, Bool, true, false, cond, Option, Some, refl, sym, ap, subst, ◌∙◌, arith}
use Rattle.std.proofs.lemmas.Bool.{cases_lt}
use Rattle.std.specs.List.{filter_map}
use Rattle.std.specs.Ordering.{nat_cmp, eq_by_cmp}
use Rattle.std.specs.declared.cmp.Ordering.{Ordering}
use Rattle.std.specs.declared.cmp.Ordering.TheVariants.{Equal}
use Rattle.std.specs.Cmp.{IsTotalOrder, Equal-is, eq_by_cmp_equiv}
use Rattle.std.specs.FinMap as finite
use Rattle.interleaving.specs.Log.{Edge as EdgeOfTheory}
use Rattle.edge_log.specs.EdgeLog.{edge_as}
use Rattle.interleaving.proofs.Put.{same_or_not}
use Rattle.fragment_codec.specs.declared.types.Key.{Key}
use Rattle.fragment_codec.specs.declared.frame.Frame.TheVariants.{Log}
use Rattle.fragment_codec.specs.Rules.{FragmentParts}
use Rattle.fragment_codec.specs.Facts.{edge_in}
use Rattle.log_join.specs.declared.answers.Put.TheVariants.{New, Same, Clash as Clashes, OtherGuest}
use Rattle.log_join.specs.Cells.{Cell, Absent, One, Clash, join_cell, cell_of}
use Rattle.frame_content.specs.Tests.{same_guest, same_opening, same_fragment}
use Rattle.log_join.specs.Stores.{StoreView, opening_at, fragment_at, IsStore, IsJoin, alone}
use Rattle.log_join.specs.Answers.{answer, answer_to}
use Rattle.log_join.proofs.Joins.{keys_total, keys_exact, join_absent}
use Rattle.closed_cut.specs.Position.{pieces_of, Goes, Avail, Fits, IsReached}
use Rattle.closed_cut.proofs.Lowerings.{found, contains_map}
use Rattle.closed_cut.proofs.Walking.{one_same, no_place}
use Rattle.tracked_position.specs.declared.walk.Cursor.{Cursor}
use Rattle.tracked_position.specs.declared.walk.Ahead.{Ahead}
use Rattle.tracked_position.specs.declared.walk.Ahead.TheVariants.{Unseen, End, Waits}
use Rattle.tracked_position.specs.machinery.Cuts.{GoesOver, IsCutOf, IsGreatestCut}
use Rattle.tracked_position.specs.machinery.Walks.{EndsAt, IsAhead, IsOver}
use Rattle.tracked_position.proofs.Cuts.{before_end, over_of, goes_rise, rises, own}
use Rattle.tracked_position.proofs.Stops.{last_end_of}

-- ---- one piece more

-- nothing else changed
pub record HasOneMore (s n : StoreView) (piece : FragmentParts) : Type 0 where
  pub guest : n.guest ≡ s.guest
  pub openings : (term : ℕ) → opening_at n term ≡ opening_at s term
  pub kept : (key : Key) (x : FragmentParts) → fragment_at s key ≡ One x → fragment_at n key ≡ One x
  pub others : (key : Key) → (key ≡ piece.key → ⊥) → fragment_at n key ≡ fragment_at s key
  pub fresh : fragment_at s piece.key ≡ Absent
  pub there : fragment_at n piece.key ≡ One piece
  pub back : (key : Key) (x : FragmentParts) → fragment_at n key ≡ One x → (fragment_at s key ≡ One x) ⊎ ((key ≡ piece.key) × (x ≡ piece))

-- a map of one content has that at its key, and nothing elsewhere
alone_cell : {K X : Type 0} {R : K → K → Ordering} → IsTotalOrder R → ((a b : K) → R a b ≡ Equal → a ≡ b) → (k q : K) (x : X) →
    (cell_of (finite.get (finite.insert (finite.empty {R = R}) k (Some x)) q) ≡ Absent) ⊎
    ((q ≡ k) × (cell_of (finite.get (finite.insert (finite.empty {R = R}) k (Some x)) q) ≡ One x))
alone_cell {K} {X} {R} total exact k q x = of (eq_by_cmp R q k) refl
  where
    seen : Bool → Cell X
    seen b = cell_of (cond b (Some (Some x)) (finite.get (finite.empty {R = R}) q))

    is : cell_of (finite.get (finite.insert (finite.empty {R = R}) k (Some x)) q) ≡ seen (eq_by_cmp R q k)
    is = ap cell_of (finite.get-insert total finite.empty k (Some x) q)

    of : (b : Bool) → eq_by_cmp R q k ≡ b → (cell_of (finite.get (finite.insert (finite.empty {R = R}) k (Some x)) q) ≡ Absent) ⊎
        ((q ≡ k) × (cell_of (finite.get (finite.insert (finite.empty {R = R}) k (Some x)) q) ≡ One x))
    of true t = inr (exact q k ((Equal-is (R q k)).0 t), is ∙ ap seen t)
    of false t = inl (is ∙ ap seen t ∙ ap cell_of (finite.get-empty R q))

-- it has it there
own_cell : {K X : Type 0} {R : K → K → Ordering} → IsTotalOrder R → (k : K) (x : X) →
    cell_of (finite.get (finite.insert (finite.empty {R = R}) k (Some x)) k) ≡ One x
own_cell {K} {X} {R} total k x =
    ap cell_of (finite.get-insert total finite.empty k (Some x) k) ∙
    ap (λ b. cell_of {X = X} (cond b (Some (Some x)) (finite.get (finite.empty {R = R}) k))) ((eq_by_cmp_equiv total).refl k)

new_here : (b : Bool) (c : Cell FragmentParts) (f : FragmentParts) → cond b (answer same_fragment c f) OtherGuest ≡ New → c ≡ Absent
new_here true Absent f e = refl
new_here true (One y) f e = of (same_fragment y f) e
  where
    of : (t : Bool) → cond t Same Clashes ≡ New → One y ≡ Absent
    of true g = cc
    of false g = cc
new_here true Clash f e = cc
new_here false c f e = cc

pub one_more : (s n : StoreView) (f : FragmentParts) → answer_to s (Log f) ≡ New → IsJoin s (alone (Log f)) n → HasOneMore s n f
one_more s n f is joined =
    record {
      guest = joined.guest;
      openings =
          λ term.
          joined.openings term ∙ ap (λ c. join_cell same_opening (opening_at s term) c) (ap cell_of (finite.get-empty nat_cmp term)) ∙
          join_absent same_opening (opening_at s term);
      kept =
          λ key x one.
          elim (alone_cell keys_total keys_exact f.key key f) [
            | inl none ↦
                joined.fragments key ∙ ap (λ c. join_cell same_fragment (fragment_at s key) c) none ∙ join_absent same_fragment (fragment_at s key) ∙ one
            | inr (at, one_there) ↦ let here_is : fragment_at s key ≡ Absent = ap (fragment_at s) at ∙ absent in cc
          ];
      others =
          λ key other.
          elim (alone_cell keys_total keys_exact f.key key f) [
            | inl none ↦ joined.fragments key ∙ ap (λ c. join_cell same_fragment (fragment_at s key) c) none ∙ join_absent same_fragment (fragment_at s key)
            | inr (at, one_there) ↦ absurd (other at)
          ];
      fresh = absent;
      there = joined.fragments f.key ∙ ap (λ c. join_cell same_fragment c (fragment_at (alone (Log f)) f.key)) absent ∙ own_cell keys_total f.key f;
      back =
          λ key x one.
          elim (alone_cell keys_total keys_exact f.key key f) [
            | inl none ↦
                inl
                (sym
                (joined.fragments key ∙ ap (λ c. join_cell same_fragment (fragment_at s key) c) none ∙ join_absent same_fragment (fragment_at s key)) ∙
                one)
            | inr (at, one_there) ↦
                let here_is : fragment_at s key ≡ Absent = ap (fragment_at s) at ∙ absent in
                let joins : fragment_at n key ≡ One f =
                joined.fragments key ∙ ap (λ c. join_cell same_fragment c (fragment_at (alone (Log f)) key)) here_is ∙ one_there in
                inr (at, one_same one joins)
          ];
    }
  where
    absent : fragment_at s f.key ≡ Absent
    absent = new_here (same_guest f.guest s.guest) (fragment_at s f.key) f is

-- ---- cuts of a term

-- the pieces of the one store's term are those of the other's
abbrev pub GrowsAt : StoreView → StoreView → ℕ → Type 0
GrowsAt s n term = (hart place : ℕ) (x : FragmentParts) → pieces_of s term hart place ≡ One x → pieces_of n term hart place ≡ One x

pub goes_grown : (a b : ℕ → Cell FragmentParts) → ((place : ℕ) (x : FragmentParts) → a place ≡ One x → b place ≡ One x) → (start place end : ℕ) →
    Goes a start place end → Goes b start place end
goes_grown a b grows start zero end goes = goes
goes_grown a b grows start (suc place) end (x, g, one, is) = (x, goes_grown a b grows start place x.from g, grows place x one, is)

module _ (s n : StoreView) (rules : IsStore n) (term : ℕ) (grows : GrowsAt s n term) where
  -- a piece of a walk that the smaller store has as well
  same_piece : (hart start more place end : ℕ) (x : FragmentParts) → Goes (pieces_of s term hart) start more end → place < more →
      pieces_of n term hart place ≡ One x → GoesOver (pieces_of s term hart) start place x
  same_piece hart start more place end x goes less one =
      let (y, over) = over_of (pieces_of s term hart) start more place end goes less in
      subst (GoesOver (pieces_of s term hart) start place) (one_same (grows hart place y over.one) one) over

  -- a cut stays one
  pub cut_grown : (base : ℕ → ℕ) (next : Option (ℕ → ℕ)) (cut : ℕ → ℕ) → IsCutOf s term base next cut → IsCutOf n term base next cut
  cut_grown base next cut is =
      record {
        above = is.above;
        within =
            λ h.
            let w = is.within h in
            record {
              place = w.place;
              end = w.end;
              goes = goes_grown (pieces_of s term h) (pieces_of n term h) (grows h) (base h) w.place w.end
                  w.goes;
              far = w.far;
            };
        before_next = is.before_next;
        closed =
            λ h place x e over has less.
            let w = is.within h in
            elim (cases_lt place w.place) [
              | inl before ↦ is.closed h place x e (same_piece h (base h) w.place place w.end x w.goes before over.one) has less
              | inr behind ↦
                  let up : w.end ≤ x.from =
                  goes_rise (pieces_of n term h) (base h) (rises n rules term h) w.place place w.end x.from
                  (goes_grown (pieces_of s term h) (pieces_of n term h) (grows h) (base h) w.place w.end w.goes) over.goes behind in
                  let o = own n rules term h place x e over.one has in
                  let from : x.from ≤ e.at = o.from in
                  let far : cut h ≤ w.end = w.far in
                  let same : cut e.hart ≡ cut h = ap cut o.own in
                  absurd (omega arith)
            ];
      }

  ahead_grown : (hart : ℕ) (cut : ℕ → ℕ) (at : Cursor) (ahead : Ahead) → (ahead ≡ End → EndsAt (pieces_of n term hart) at) →
      IsAhead (pieces_of s term hart) cut at ahead → IsAhead (pieces_of n term hart) cut at ahead
  ahead_grown hart cut at Unseen ends is = tt
  ahead_grown hart cut at End ends is = ends refl
  ahead_grown hart cut at (Waits e) ends is =
      record {
        piece = is.piece;
        one = grows hart at.place is.piece is.one;
        from = is.from;
        has = is.has;
        below = is.below;
        first = is.first;
      }

  -- and a walk came as far, where it has not ended before what came
  pub over_grown : (hart start : ℕ) (cut : ℕ → ℕ) (at : Cursor) → (at.ahead ≡ End → EndsAt (pieces_of n term hart) at) →
      IsOver (pieces_of s term hart) start cut at → IsOver (pieces_of n term hart) start cut at
  over_grown hart start cut at ends over =
      record {
        goes = goes_grown (pieces_of s term hart) (pieces_of n term hart) (grows hart) start at.place at.end over.goes;
        met = λ place x e less one has. over.met place x e less (same_piece hart start at.place place at.end x over.goes less one).one has;
        seen = ahead_grown hart cut at at.ahead ends over.seen;
      }

-- ---- what is reached, by its walks

see_cell : {X : Type 0} (c : Cell X) → ((x : X) × (c ≡ One x)) ⊎ ((x : X) → c ≡ One x → ⊥)
see_cell Absent = inr (λ x e. cc)
see_cell (One x) = inl (x, refl)
see_cell Clash = inr (λ x e. cc)

module _ (s : StoreView) (rules : IsStore s) (term : ℕ) (base : ℕ → ℕ) where
  avail_from : (hart fuel place end : ℕ) → Goes (pieces_of s term hart) (base hart) place end → 2 ^ 32 ≤ place + fuel →
      (p e : ℕ) × Goes (pieces_of s term hart) (base hart) p e × ((x : FragmentParts) → pieces_of s term hart p ≡ One x → x.from ≡ e → ⊥)
  avail_from hart zero place end g enough = (
    place,
    end,
    g,
    λ x is e. let less : place < 2 ^ 32 = no_place s term hart place x rules is in absurd (omega arith),
  )
  avail_from hart (suc fuel) place end g enough =
      elim (see_cell (pieces_of s term hart place)) [
        | inr none ↦ (place, end, g, λ x is e. none x is)
        | inl (x, is) ↦
            elim (same_or_not x.from end) [
              | inr ne ↦ (place, end, g, λ y at e. ne (ap (λ x. x.from) (one_same is at) ∙ e))
              | inl same ↦ avail_from hart fuel (suc place) x.to
                  (x, subst (λ n. Goes (pieces_of s term hart) (base hart) place n) (sym same) g, is, refl) (omega arith)
            ]
      ]

  pub avail_of : Avail s term base
  avail_of = record { places = λ h. (all h).0; end = λ h. (all h).1; goes = λ h. (all h).2; stops = λ h. (all h).3 }
    where
      all : (hart : ℕ) → (p e : ℕ) × Goes (pieces_of s term hart) (base hart) p e × ((x : FragmentParts) → pieces_of s term hart p ≡ One x → x.from ≡ e → ⊥)
      all hart = avail_from hart (2 ^ 32) 0 (base hart) refl (omega arith)

  module _ (next : Option (ℕ → ℕ)) where
    fits_of : (a : Avail s term base) (cut : ℕ → ℕ) → IsCutOf s term base next cut → Fits s term base next a cut
    fits_of a cut is =
        record {
          above = is.above;
          within =
              λ h.
              let w = is.within h in
              let last : w.end ≤ a.end h =
              last_end_of s rules term base h (record { place = a.places h; end = a.end h; ahead = Unseen }) (a.goes h) (a.stops h) w.place w.end w.goes in
              let far : cut h ≤ w.end = w.far in omega arith;
          before_next = is.before_next;
          closed =
              λ h place x e less one has under.
              let f = found (filter_map edge_in x.records) e has in
              let (y, over) = over_of (pieces_of s term h) (base h) (a.places h) place (a.end h) (a.goes h) less in
              let over_x = subst (GoesOver (pieces_of s term h) (base h) place) (one_same over.one one) over in
              subst (λ (e : EdgeOfTheory). e.count ≤ cut e.other) f.is
              (is.closed h place x f.edge over_x (f.place, f.below, sym f.here) (subst (λ (e : EdgeOfTheory). e.step < cut e.hart) (sym f.is) under));
        }

    cut_of : (a : Avail s term base) (cut : ℕ → ℕ) → Fits s term base next a cut → IsCutOf s term base next cut
    cut_of a cut fits =
        record {
          above = fits.above;
          within = λ h. record { place = a.places h; end = a.end h; goes = a.goes h; far = fits.within h };
          before_next = fits.before_next;
          closed =
              λ h place x e over has less.
              fits.closed h place x (edge_as e) (before_end (pieces_of s term h) (base h) (a.places h) (a.end h) place x (a.goes h) (a.stops h) over) over.one
              (contains_map (filter_map edge_in x.records) e has) less;
        }

    pub to_greatest : (cut : ℕ → ℕ) → IsReached s term base next cut → IsGreatestCut s term base next cut
    to_greatest cut r = record { cut_of = cut_of r.avail cut r.fits; bound = λ other is. r.greatest other (fits_of r.avail other is) }

    pub from_greatest : (cut : ℕ → ℕ) → IsGreatestCut s term base next cut → IsReached s term base next cut
    from_greatest cut g =
        record { avail = avail_of; fits = fits_of avail_of cut g.cut_of; greatest = λ other fits. g.bound other (cut_of avail_of other fits) }
