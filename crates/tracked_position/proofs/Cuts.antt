-- Walks over the pieces of a store, and cuts of what they go over.
use Rattle.std.proofs.Common.{◌≡◌, inl, inr, ℕ, zero, suc, ◌<◌, ◌≤◌, ◌^◌, List, [], ◌∷◌, Contains, length, set, Option, Some, None, MatchOption, refl, sym}
use Rattle.std.proofs.Common.{ap, subst, ◌∙◌, arith}
use Rattle.std.proofs.Common.{le_trans, get_or-set_same, get_or-set_other}
use Rattle.std.specs.List.{filter_map, AllByRecursion}
use Rattle.std.proofs.lemmas.Bool.{cases_lt, cases_eq}
use Rattle.ft_types.specs.Counts.{count_at, IsCount}
use Rattle.interleaving.proofs.Cuts.{here_or_later}
use Rattle.edge_log.specs.declared.Edge.{Edge}
use Rattle.fragment_codec.specs.declared.types.Record.{Record}
use Rattle.fragment_codec.specs.declared.types.Record.TheVariants.{Edge as EdgeRecord, Input as InputRecord, Note as NoteRecord}
use Rattle.fragment_codec.specs.Facts.{edge_in}
use Rattle.fragment_codec.specs.Rules.{FragmentParts, OpeningParts, IsRecordOf}
use Rattle.log_join.specs.Cells.{Cell, One}
use Rattle.log_join.specs.Stores.{StoreView, IsStore, opening_at}
use Rattle.closed_cut.specs.Position.{pieces_of, Goes, base_of}
use Rattle.closed_cut.proofs.Walking.{one_same}
use Rattle.closed_cut.proofs.Reach.{cut_short, goes_above}
use Rattle.tracked_position.specs.machinery.Cuts.{edges_in, Meets, GoesOver, ComesTo, IsLimited, IsCutOf, IsHigh}
use Rattle.tracked_position.specs.machinery.Waits.{limited_to}
use Rattle.std.specs.Option.{option_map}

-- a row with a greater count
pub set_rises : (cut : List ℕ) (hart end : ℕ) → hart < length cut → count_at cut hart < end → (h : ℕ) → count_at cut h ≤ count_at (set cut hart end) h
set_rises cut hart end there less h =
    elim (cases_eq h hart) [
      | inl same ↦ rw (same, get_or-set_same cut hart end 0 there) (omega arith)
      | inr ne ↦ rw (get_or-set_other cut hart h end 0 ne) (omega arith)
    ]

-- ---- limits

-- the hart's count is at most its limit
abbrev pub IsLimitedAt : Option (ℕ → ℕ) → ℕ → ℕ → Type 0
IsLimitedAt next hart count = MatchOption next (Unit {0}) (λ limit. count ≤ limit hart)

pub set_limited : (next : Option (ℕ → ℕ)) (cut : List ℕ) (hart count : ℕ) → hart < length cut → IsLimited next (count_at cut) → IsLimitedAt next hart count →
    IsLimited next (count_at (set cut hart count))
set_limited None cut hart count there are is = tt
set_limited (Some limit) cut hart count there are is =
    λ h.
    elim (cases_eq h hart) [
      | inl same ↦ rw (same, get_or-set_same cut hart count 0 there) is
      | inr ne ↦ rw (get_or-set_other cut hart h count 0 ne) (are h)
    ]

pub limited_lower : (next : Option (ℕ → ℕ)) (cut : ℕ → ℕ) (hart count : ℕ) → IsLimited next cut → count ≤ cut hart → IsLimitedAt next hart count
limited_lower None cut hart count are less = tt
limited_lower (Some limit) cut hart count are less = le_trans less (are hart)

-- the lesser of a count and a hart's limit
pub limited_is : (limit : Option (List ℕ)) (hart count : ℕ) → IsLimitedAt (option_map count_at limit) hart (limited_to limit hart count)
limited_is None hart count = tt
limited_is (Some limit) hart count = omega arith

pub limited_le : (limit : Option (List ℕ)) (hart count : ℕ) → limited_to limit hart count ≤ count
limited_le None hart count = omega arith
limited_le (Some limit) hart count = omega arith

-- no cut is above it that is not above the count
pub limited_bound : (limit : Option (List ℕ)) (cut : ℕ → ℕ) (hart count : ℕ) → IsLimited (option_map count_at limit) cut → cut hart ≤ count →
    cut hart ≤ limited_to limit hart count
limited_bound None cut hart count are less = less
limited_bound (Some limit) cut hart count are less = let l : cut hart ≤ count_at limit hart = are hart in omega arith

-- nor where the limit is what holds it
pub limited_holds : (limit : Option (List ℕ)) (cut : ℕ → ℕ) (hart count : ℕ) → IsLimited (option_map count_at limit) cut →
    limited_to limit hart count < count → cut hart ≤ limited_to limit hart count
limited_holds None cut hart count are less = absurd (omega arith)
limited_holds (Some limit) cut hart count are less = let l : cut hart ≤ count_at limit hart = are hart in omega arith

-- ---- one hart's pieces

module _ (pieces : ℕ → Cell FragmentParts) (start : ℕ) where
  pub goes_same : (place a b : ℕ) → Goes pieces start place a → Goes pieces start place b → a ≡ b
  goes_same zero a b x y = x ∙ sym y
  goes_same (suc n) a b (x, gx, isx, ex) (y, gy, isy, ey) = ex ∙ (ap (λ f. f.to) (one_same isx isy) ∙ sym ey)

  -- a walk that has gone over a piece went over what stands before it
  pub over_before : (place end k : ℕ) (x : FragmentParts) → Goes pieces start place end → GoesOver pieces start k x → place ≤ k →
      (y : FragmentParts) × (pieces place ≡ One y) × (y.from ≡ end)
  over_before place end k x goes over le =
      let (y, gy, one) = cut_short pieces start (suc k) place x.to (x, over.goes, over.one, refl) (omega arith) in
      (y, one, goes_same place y.from end gy goes)

  -- no walk goes on where there is no next piece
  pub before_end : (place end k : ℕ) (x : FragmentParts) → Goes pieces start place end →
      ((y : FragmentParts) → pieces place ≡ One y → y.from ≡ end → ⊥) → GoesOver pieces start k x → k < place
  before_end place end k x goes none over =
      elim (cases_lt k place) [
        | inl less ↦ less
        | inr le ↦ let (y, one, from) = over_before place end k x goes over le in absurd (none y one from)
      ]

  pub over_of : (more place end : ℕ) → Goes pieces start more end → place < more → (x : FragmentParts) × GoesOver pieces start place x
  over_of more place end goes less = let (x, g, one) = cut_short pieces start more place end goes less in (x, record { goes = g; one = one })

  pub goes_rise : ((place : ℕ) (x : FragmentParts) → pieces place ≡ One x → x.from < x.to) → (p q e f : ℕ) → Goes pieces start p e → Goes pieces start q f →
      p ≤ q → e ≤ f
  goes_rise rises p zero e f ge gf le =
      let none : 0 ≡ p = omega arith in
      let same : e ≡ f = goes_same 0 e f (subst (λ n. Goes pieces start n e) (sym none) ge) gf in omega arith
  goes_rise rises p (suc q) e f ge (x, gx, one, is) le =
      elim (cases_eq p (suc q)) [
        | inl same ↦
            let here_is : e ≡ f = goes_same (suc q) e f (subst (λ n. Goes pieces start n e) same ge) (x, gx, one, is) in omega arith
        | inr ne ↦
            let up : e ≤ x.from = goes_rise rises p q e x.from ge gx (omega arith) in let more : x.from < x.to = rises q x one in omega arith
      ]

-- ---- the edges of a store's pieces

record_of_edge : (P : Record → Type 0) (records : List Record) (e : Edge) → AllByRecursion P records → Contains (filter_map edge_in records) e →
    P (EdgeRecord e)
record_of_edge P [] e all (k, below, is) = absurd (omega arith)
record_of_edge P (EdgeRecord edge ∷ records) e all has =
    elim (here_or_later edge (filter_map edge_in records) e has) [
      | inl same ↦ subst (λ e. P (EdgeRecord e)) same all.0
      | inr later ↦ record_of_edge P records e all.1 later
    ]
record_of_edge P (InputRecord at input ∷ records) e all has = record_of_edge P records e all.1 has
record_of_edge P (NoteRecord at number ∷ records) e all has = record_of_edge P records e all.1 has

-- an edge is its piece's hart's, and stands in the range of the piece
pub record IsEdgeOf (hart : ℕ) (x : FragmentParts) (e : Edge) : Type 0 where
  pub own : e.hart ≡ hart
  pub from : x.from ≤ e.at
  pub to : e.at < x.to
  pub count : e.at < 2 ^ 48

counts_at : (row : List ℕ) → AllByRecursion IsCount row → (h : ℕ) → IsCount (count_at row h)
counts_at [] all h = omega arith
counts_at (x ∷ row) all zero = all.0
counts_at (x ∷ row) all (suc h) = counts_at row all.1 h

module _ (s : StoreView) (rules : IsStore s) (term : ℕ) where
  pub rises : (hart place : ℕ) (x : FragmentParts) → pieces_of s term hart place ≡ One x → x.from < x.to
  rises hart place x one = (rules.fragments (record { term = term; hart = hart; place = place }) x one).rules.some

  pub own : (hart place : ℕ) (x : FragmentParts) (e : Edge) → pieces_of s term hart place ≡ One x → Contains (edges_in x) e → IsEdgeOf hart x e
  own hart place x e one has =
      let fits = rules.fragments (record { term = term; hart = hart; place = place }) x one in
      let is : IsRecordOf x.guest.harts x.key.hart x.from x.to (EdgeRecord e) =
      record_of_edge (IsRecordOf x.guest.harts x.key.hart x.from x.to) x.records e fits.rules.records.each has in
      let to : e.at < x.to = is.2 in
      let end : x.to < 2 ^ 48 = fits.rules.end in
      record { own = is.0.0 ∙ ap (λ k. k.hart) fits.same_key; from = is.1; to = to; count = omega arith }

  -- a hart that the guest has not has no pieces
  pub no_pieces : (hart : ℕ) → s.guest.harts ≤ hart → (start place end : ℕ) → Goes (pieces_of s term hart) start place end → end ≡ start
  no_pieces hart over start zero end goes = goes
  no_pieces hart over start (suc place) end (x, g, one, is) =
      let fits = rules.fragments (record { term = term; hart = hart; place = place }) x one in
      let harts : x.guest.harts ≡ s.guest.harts = ap (λ g. g.harts) fits.same_guest in
      let same : x.key.hart ≡ hart = ap (λ k. k.hart) fits.same_key in
      let key : x.key.hart < x.guest.harts = fits.rules.key.hart in
      absurd (omega arith)

  pub end_count : (o : OpeningParts) → opening_at s term ≡ One o → (hart place end : ℕ) → Goes (pieces_of s term hart) (base_of o hart) place end → end < 2 ^ 48
  end_count o opens hart zero end goes =
      let less : count_at o.base hart < 2 ^ 48 = counts_at o.base (rules.openings term o opens).rules.counts hart in omega arith
  end_count o opens hart (suc place) end (x, g, one, is) =
      let less : x.to < 2 ^ 48 = (rules.fragments (record { term = term; hart = hart; place = place }) x one).rules.end in omega arith

  -- ---- cuts

  module _ (base : ℕ → ℕ) (next : Option (ℕ → ℕ)) where
    -- the base is a cut
    pub base_cut : IsLimited next base → IsCutOf s term base next base
    base_cut limited =
        record {
          above = λ h. omega arith;
          within = λ h. record { place = 0; end = base h; goes = refl; far = omega arith };
          before_next = limited;
          closed =
              λ h place x e over has less.
              let from : base h ≤ x.from = goes_above (pieces_of s term h) (base h) (rises h) place x.from over.goes in
              let o = own h place x e over.one has in
              let at : x.from ≤ e.at = o.from in
              let same : base e.hart ≡ base h = ap base o.own in
              absurd (omega arith);
        }

    -- one hart is raised, whose edges up to there are met
    pub raised : (cut : List ℕ) (hart end : ℕ) → IsCutOf s term base next (count_at cut) → hart < length cut → count_at cut hart < end →
        IsLimitedAt next hart end → ComesTo (pieces_of s term hart) (base hart) end →
        ((place : ℕ) (x : FragmentParts) (e : Edge) → GoesOver (pieces_of s term hart) (base hart) place x → Contains (edges_in x) e → e.at < end →
        Meets (count_at cut) e) → IsCutOf s term base next (count_at (set cut hart end))
    raised cut hart end is there less limited comes met =
        record {
          above = λ h. le_trans (is.above h) (grows h);
          within =
              λ h.
              elim (cases_eq h hart) [
                | inl same ↦ rw (same, get_or-set_same cut hart end 0 there) comes
                | inr ne ↦ rw (get_or-set_other cut hart h end 0 ne) (is.within h)
              ];
          before_next = set_limited next cut hart end there is.before_next limited;
          closed =
              λ h place x e over has below.
              le_trans (elim (cases_eq h hart) [
                | inl same ↦
                    let own_is : e.hart ≡ hart = (own h place x e over.one has).own ∙ same in
                    let at : count_at (set cut hart end) e.hart ≡ end = ap (count_at (set cut hart end)) own_is ∙ get_or-set_same cut hart end 0 there in
                    met place x e (subst (λ n. GoesOver (pieces_of s term n) (base n) place x) same over) has (omega arith)
                | inr ne ↦
                    let own_is : e.hart ≡ h = (own h place x e over.one has).own in
                    let at : count_at (set cut hart end) e.hart ≡ count_at cut e.hart =
                    get_or-set_other cut hart e.hart end 0 (λ is_hart. ne (sym own_is ∙ is_hart)) in
                    is.closed h place x e over has (omega arith)
              ]) (grows e.other);
        }
      where
        grows : (h : ℕ) → count_at cut h ≤ count_at (set cut hart end) h
        grows = set_rises cut hart end there less

    -- one hart is stopped in front of a step that an edge forbids
    pub stopped : (high : List ℕ) (hart : ℕ) (place : ℕ) (x : FragmentParts) (e : Edge) → IsHigh s term base next (count_at high) → hart < length high →
        GoesOver (pieces_of s term hart) (base hart) place x → Contains (edges_in x) e → e.at < count_at high hart → count_at high e.other < e.after →
        IsHigh s term base next (count_at (set high hart e.at))
    stopped high hart place x e is there over has below unmet =
        record {
          come =
              λ h.
              elim (cases_eq h hart) [
                | inl same ↦
                    let c = is.come hart in
                    let far : count_at high hart ≤ c.end = c.far in
                    rw (same, get_or-set_same high hart e.at 0 there) (record { place = c.place; end = c.end; goes = c.goes; far = omega arith })
                | inr ne ↦ rw (get_or-set_other high hart h e.at 0 ne) (is.come h)
              ];
          limited = set_limited next high hart e.at there is.limited (limited_lower next (count_at high) hart e.at is.limited (omega arith));
          bound =
              λ other cut h.
              elim (cases_eq h hart) [
                | inl same ↦
                    rw (same, get_or-set_same high hart e.at 0 there)
                    (elim (cases_lt e.at (other hart)) [
                      | inl past ↦
                          let own_is : other e.hart ≡ other hart = ap other (own hart place x e over.one has).own in
                          let met : e.after ≤ other e.other = cut.closed hart place x e over has (omega arith) in
                          let under : other e.other ≤ count_at high e.other = is.bound other cut e.other in
                          absurd (omega arith)
                      | inr fine ↦ fine
                    ])
                | inr ne ↦ rw (get_or-set_other high hart h e.at 0 ne) (is.bound other cut h)
              ];
        }
