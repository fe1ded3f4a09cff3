-- Each store of well-formed frames has a position.
use Rattle.std.proofs.Common.{◌∷◌, length, map, ◌^◌, ◌≡◌, ◌≢◌, ◌⊎◌, inl, inr, ℕ, zero, suc, ◌+◌, ◌<◌, ◌≤◌, min}
use Rattle.std.proofs.Common.{List, [], Contains, Option, Some, None, MatchOption}
use Rattle.std.proofs.Common.{refl, sym, ap, subst, ◌∙◌, arith}
use Rattle.std.proofs.lemmas.Bool.{cases_lt}
use Rattle.interleaving.specs.Log.{Edge, IsClosed}
use Rattle.interleaving.specs.Cuts.{IsGreatest}
use Rattle.interleaving.proofs.Put.{same_or_not}
use Rattle.interleaving.proofs.Cuts.{greatest, here_or_later}
use Rattle.std.specs.List.{filter_map, AllByRecursion}
use Rattle.std.proofs.lemmas.List.{get_or_past}
use Rattle.edge_log.specs.declared.Edge.{Edge as OwnedEdge}
use Rattle.edge_log.specs.EdgeLog.{edge_as}
use Rattle.fragment_codec.specs.declared.types.Record.{Record}
use Rattle.fragment_codec.specs.declared.types.Record.TheVariants.{Edge as EdgeRecord, Input as InputRecord, Note as NoteRecord}
use Rattle.fragment_codec.specs.Facts.{edge_in}
use Rattle.fragment_codec.specs.Rules.{IsRecordOf}
use Rattle.ft_types.specs.Counts.{IsCount}
use Rattle.log_join.specs.Stores.{IsStore}
use Rattle.ft_types.specs.Counts.{count_at}
use Rattle.ft_types.specs.Guests.{GuestParts}
use Rattle.fragment_codec.specs.declared.types.Key.{Key}
use Rattle.fragment_codec.specs.Rules.{FragmentParts, OpeningParts}
use Rattle.log_join.specs.Cells.{Cell, Absent, One, Clash}
use Rattle.log_join.specs.Stores.{StoreView, opening_at}
use Rattle.closed_cut.specs.Chain.{Sound, Root, Child}
use Rattle.closed_cut.specs.Position.{pieces_of, edges_of, Goes, Avail, IsReached, base_of, InChain, Self, Stops, Last, Short, On, IsPosition, NoTop, Top}
use Rattle.ft_types.specs.declared.position.Position.{Position}
use Rattle.closed_cut.specs.machinery.Walks.{all_edges}
use Rattle.closed_cut.specs.Unique.{HasPosition}
use Rattle.closed_cut.proofs.Lowerings.{found, contains_map}
use Rattle.closed_cut.proofs.Walking.{one_same}
use Rattle.closed_cut.proofs.Chains.{sound_opens, chain_up}
use Rattle.closed_cut.proofs.Reach.{cut_short, goes_above, in_all, of_all}

see_cell : {X : Type 0} (c : Cell X) → ((x : X) × (c ≡ One x)) ⊎ ((x : X) → c ≡ One x → ⊥)
see_cell Absent = inr (λ x e. cc)
see_cell (One x) = inl (x, refl)
see_cell Clash = inr (λ x e. cc)

-- below n all are equal, or one is not
all_equal : (n : ℕ) (x y : ℕ → ℕ) → ((h : ℕ) → h < n → x h ≡ y h) ⊎ ((h : ℕ) × (x h ≢ y h))
all_equal zero x y = inl (λ h less. absurd (omega arith))
all_equal (suc n) x y =
    elim (same_or_not (x n) (y n)) [
      | inr ne ↦ inr (n, ne)
      | inl e ↦
          elim (all_equal n x y) [
            | inr other ↦ inr other
            | inl all ↦
                inl
                (λ h less.
                elim (cases_lt h n) [ inl before ↦ all h before | inr last ↦ let k : n ≡ h = omega arith in subst (λ h. x h ≡ y h) k e ])
          ]
    ]

all_below : (n : ℕ) (x y : ℕ → ℕ) → ((h : ℕ) → h < n → x h ≤ y h) ⊎ ((h : ℕ) × (y h < x h))
all_below zero x y = inl (λ h less. absurd (omega arith))
all_below (suc n) x y =
    elim (cases_lt (y n) (x n)) [
      | inl more ↦ inr (n, more)
      | inr le ↦
          elim (all_below n x y) [
            | inr other ↦ inr other
            | inl all ↦
                inl
                (λ h less.
                elim (cases_lt h n) [ inl before ↦ all h before | inr last ↦ let k : n ≡ h = omega arith in subst (λ h. x h ≤ y h) k le ])
          ]
    ]

-- what the search uses of a store: its terms and places are below a bound, and its harts are so many
pub record IsFormed (harts bound : ℕ) (s : StoreView) : Type 0 where
  pub ordered : (term : ℕ) (o : OpeningParts) → opening_at s term ≡ One o → o.parent < term
  pub terms : (term : ℕ) (o : OpeningParts) → opening_at s term ≡ One o → term < bound
  pub row : (term : ℕ) (o : OpeningParts) (hart : ℕ) → opening_at s term ≡ One o → harts ≤ hart → base_of o hart ≡ 0
  pub few : (term hart place : ℕ) (x : FragmentParts) → pieces_of s term hart place ≡ One x → (hart < harts) × (place < bound)
  pub rises : (term hart place : ℕ) (x : FragmentParts) → pieces_of s term hart place ≡ One x → x.from < x.to
  pub own : (term hart place : ℕ) (x : FragmentParts) (e : Edge) → pieces_of s term hart place ≡ One x → Contains (edges_of x) e →
      (e.hart ≡ hart) × (x.from ≤ e.step)
  pub base_counts : (term : ℕ) (o : OpeningParts) (hart : ℕ) → opening_at s term ≡ One o → IsCount (base_of o hart)
  pub end_counts : (term hart place : ℕ) (x : FragmentParts) → pieces_of s term hart place ≡ One x → IsCount x.to
  pub named : (term : ℕ) (o : OpeningParts) → opening_at s term ≡ One o → 1 ≤ term

-- a row of so many counts
abbrev pub row_of : ℕ → (ℕ → ℕ) → List ℕ
row_of zero f = []
row_of (suc n) f = f 0 ∷ row_of n (λ h. f (suc h))

row_length : (n : ℕ) (f : ℕ → ℕ) → length (row_of n f) ≡ n
row_length zero f = refl
row_length (suc n) f = let ih : length (row_of n (λ h. f (suc h))) ≡ n = row_length n (λ h. f (suc h)) in omega arith

row_at : (n : ℕ) (f : ℕ → ℕ) (h : ℕ) → (n ≤ h → f h ≡ 0) → count_at (row_of n f) h ≡ f h
row_at zero f h past = sym (past (omega arith))
row_at (suc n) f zero past = refl
row_at (suc n) f (suc h) past = row_at n (λ h. f (suc h)) h (λ le. past (omega arith))

row_counts : (n : ℕ) (f : ℕ → ℕ) → ((h : ℕ) → IsCount (f h)) → AllByRecursion IsCount (row_of n f)
row_counts zero f fine = tt
row_counts (suc n) f fine = (fine 0, row_counts n (λ h. f (suc h)) (λ h. fine (suc h)))

counts_at : (row : List ℕ) → AllByRecursion IsCount row → (h : ℕ) → IsCount (count_at row h)
counts_at [] all h = omega arith
counts_at (x ∷ row) all zero = all.0
counts_at (x ∷ row) all (suc h) = counts_at row all.1 h

record_of_edge : (P : Record → Type 0) (records : List Record) (e : OwnedEdge) → AllByRecursion P records →
    Contains (filter_map edge_in records) e → P (EdgeRecord e)
record_of_edge P [] e all (k, below, is) = absurd (omega arith)
record_of_edge P (EdgeRecord edge ∷ records) e all has =
    elim (here_or_later edge (filter_map edge_in records) e has) [
      | inl same ↦ subst (λ e. P (EdgeRecord e)) same all.0
      | inr later ↦ record_of_edge P records e all.1 later
    ]
record_of_edge P (InputRecord at input ∷ records) e all has = record_of_edge P records e all.1 has
record_of_edge P (NoteRecord at number ∷ records) e all has = record_of_edge P records e all.1 has

pub formed_of : (s : StoreView) → IsStore s → IsFormed s.guest.harts (2 ^ 32) s
formed_of s rules =
    record {
      ordered = λ term o one.
          let f = rules.openings term o one in
          let a : o.parent < o.term = f.rules.parent in
          let b : o.term ≡ term = f.same_term in omega arith;
      terms = λ term o one. let f = rules.openings term o one in subst (λ t. t < 2 ^ 32) f.same_term f.rules.term;
      row =
          λ term o hart one over.
          let f = rules.openings term o one in
          get_or_past o.base hart 0 (let a : length o.base ≡ s.guest.harts = f.rules.base ∙ ap (λ (g : GuestParts). g.harts) f.same_guest in omega arith);
      few =
          λ term hart place x one.
          let f = rules.fragments (record { term = term; hart = hart; place = place }) x one in (
            subst (λ (g : GuestParts). hart < g.harts) f.same_guest (subst (λ (k : Key). k.hart < x.guest.harts) f.same_key f.rules.key.hart),
            subst (λ (k : Key). k.place < 2 ^ 32) f.same_key f.rules.key.place,
          );
      rises = λ term hart place x one. (rules.fragments (record { term = term; hart = hart; place = place }) x one).rules.some;
      own =
          λ term hart place x e one has.
          let f = rules.fragments (record { term = term; hart = hart; place = place }) x one in
          let y = found (filter_map edge_in x.records) e has in
          let r : IsRecordOf x.guest.harts x.key.hart x.from x.to (EdgeRecord y.edge) =
          record_of_edge (IsRecordOf x.guest.harts x.key.hart x.from x.to) x.records y.edge f.rules.records.each (y.place, y.below, sym y.here) in (
            subst (λ (e : Edge). e.hart ≡ hart) y.is (r.0.0 ∙ ap (λ (k : Key). k.hart) f.same_key),
            subst (λ (e : Edge). x.from ≤ e.step) y.is r.1,
          );
      base_counts = λ term o hart one. counts_at o.base (rules.openings term o one).rules.counts hart;
      end_counts = λ term hart place x one. (rules.fragments (record { term = term; hart = hart; place = place }) x one).rules.end;
      named = λ term o one. let f = rules.openings term o one in subst (λ t. 1 ≤ t) f.same_term f.rules.granted;
    }

-- ---- the edges of walks, in the theory's words

-- an edge that the walks went over, with its piece
pub record GoneOver (pieces : ℕ → ℕ → Cell FragmentParts) (places : ℕ → ℕ) (e : Edge) : Type 0 where
  pub hart : ℕ
  pub place : ℕ
  pub piece : FragmentParts
  pub less : place < places hart
  pub one : pieces hart place ≡ One piece
  pub has : Contains (edges_of piece) e

in_walks : (pieces : ℕ → ℕ → Cell FragmentParts) (places : ℕ → ℕ) (n : ℕ) (e : Edge) → Contains (map edge_as (all_edges pieces places n)) e →
    GoneOver pieces places e
in_walks pieces places n e has =
    let x = found (all_edges pieces places n) e has in
    let f = in_all pieces places n x.edge (x.place, x.below, sym x.here) in
    record {
      hart = f.hart;
      place = f.place;
      piece = f.piece;
      less = f.gone_over;
      one = f.one;
      has = subst (Contains (edges_of f.piece)) x.is (contains_map (filter_map edge_in f.piece.records) x.edge f.has);
    }

of_walks : (pieces : ℕ → ℕ → Cell FragmentParts) (places : ℕ → ℕ) (n hart place : ℕ) (piece : FragmentParts) (e : Edge) → hart < n → place < places hart →
    pieces hart place ≡ One piece → Contains (edges_of piece) e → Contains (map edge_as (all_edges pieces places n)) e
of_walks pieces places n hart place piece e below less one has =
    let x = found (filter_map edge_in piece.records) e has in
    subst (Contains (map edge_as (all_edges pieces places n))) x.is
    (contains_map (all_edges pieces places n) x.edge
    (of_all pieces places n x.edge (record {
      hart = hart;
      place = place;
      piece = piece;
      below = below;
      gone_over = less;
      one = one;
      has = (x.place, x.below, sym x.here);
    })))

module _ (harts bound : ℕ) (s : StoreView) (formed : IsFormed harts bound s) where
  avail_from : (term hart start fuel place end : ℕ) → Goes (pieces_of s term hart) start place end → bound ≤ place + fuel →
      (p e : ℕ) × Goes (pieces_of s term hart) start p e × ((x : FragmentParts) → pieces_of s term hart p ≡ One x → x.from ≡ e → ⊥)
  avail_from term hart start zero place end g enough = (place, end, g, λ x is e. let f : place < bound = (formed.few term hart place x is).1 in omega arith)
  avail_from term hart start (suc fuel) place end g enough =
      elim (see_cell (pieces_of s term hart place)) [
        | inr none ↦ (place, end, g, λ x is e. none x is)
        | inl (x, is) ↦
            elim (same_or_not x.from end) [
              | inr ne ↦ (place, end, g, λ y at e. ne (ap (λ x. x.from) (one_same is at) ∙ e))
              | inl same ↦ avail_from term hart start fuel (suc place) x.to
                  (x, subst (λ n. Goes (pieces_of s term hart) start place n) (sym same) g, is, refl) (omega arith)
            ]
      ]

  pub avail_of : (term : ℕ) (base : ℕ → ℕ) → Avail s term base
  avail_of term base = record { places = λ h. (all h).0; end = λ h. (all h).1; goes = λ h. (all h).2; stops = λ h. (all h).3 }
    where
      all : (hart : ℕ) → (p e : ℕ) × Goes (pieces_of s term hart) (base hart) p e × ((x : FragmentParts) → pieces_of s term hart p ≡ One x → x.from ≡ e → ⊥)
      all hart = avail_from term hart (base hart) bound 0 (base hart) refl (omega arith)

  reached_of : (term : ℕ) (base : ℕ → ℕ) (next : Option (ℕ → ℕ)) (limit : ℕ → ℕ) → ((hart : ℕ) → base hart ≤ limit hart) →
      ((cut : ℕ → ℕ) → ((hart : ℕ) → cut hart ≤ limit hart) → ((hart : ℕ) → cut hart ≤ (avail_of term base).end hart) →
      MatchOption next (Unit {0}) (λ l. (hart : ℕ) → cut hart ≤ l hart)) →
      ((cut : ℕ → ℕ) → MatchOption next (Unit {0}) (λ l. (hart : ℕ) → cut hart ≤ l hart) → ((hart : ℕ) → cut hart ≤ (avail_of term base).end hart) →
      (hart : ℕ) → cut hart ≤ limit hart) →
      (cut : ℕ → ℕ) × IsReached s term base next cut
  reached_of term base next limit below to back = (
    greatest_cut.0,
    record {
      avail = a;
      fits =
          record {
            above = greatest_cut.1.greatest base base_closed base_under;
            within = within;
            before_next = to greatest_cut.0
                (λ hart. let l : greatest_cut.0 hart ≤ min (a.end hart) (limit hart) = greatest_cut.1.below hart in omega arith) within;
            closed =
                λ hart place x e under is has.
                greatest_cut.1.closed e (of_walks (pieces_of s term) a.places harts hart place x e ((formed.few term hart place x is).0) under is has);
          };
      greatest =
          λ other f.
          greatest_cut.1.greatest other
          (λ e has. let w = in_walks (pieces_of s term) a.places harts e has in f.closed w.hart w.place w.piece e w.less w.one w.has)
          (λ hart. let p : other hart ≤ a.end hart = f.within hart in let q : other hart ≤ limit hart = back other f.before_next f.within hart in omega arith);
    },
  )
    where
      a : Avail s term base
      a = avail_of term base

      edges : List Edge
      edges = map edge_as (all_edges (pieces_of s term) a.places harts)

      greatest_cut : (cut : ℕ → ℕ) × IsGreatest edges (λ hart. min (a.end hart) (limit hart)) cut
      greatest_cut = greatest edges (λ hart. min (a.end hart) (limit hart))

      within : (hart : ℕ) → greatest_cut.0 hart ≤ a.end hart
      within hart = let l : greatest_cut.0 hart ≤ min (a.end hart) (limit hart) = greatest_cut.1.below hart in omega arith

      base_under : (hart : ℕ) → base hart ≤ min (a.end hart) (limit hart)
      base_under hart =
          let l : base hart ≤ a.end hart = goes_above (pieces_of s term hart) (base hart) (formed.rises term hart) (a.places hart) (a.end hart) (a.goes hart) in
          let m : base hart ≤ limit hart = below hart in
          omega arith

      base_closed : IsClosed edges base
      base_closed e has low =
          let w = in_walks (pieces_of s term) a.places harts e has in
          let (y, g, one) = cut_short (pieces_of s term w.hart) (base w.hart) (a.places w.hart) w.place (a.end w.hart) (a.goes w.hart) w.less in
          let l : base w.hart ≤ y.from = goes_above (pieces_of s term w.hart) (base w.hart) (formed.rises term w.hart) w.place y.from g in
          let same : y.from ≡ w.piece.from = ap (λ (x : FragmentParts). x.from) (one_same one w.one) in
          let (own, from) = formed.own term w.hart w.place w.piece e w.one w.has in
          let k : base e.hart ≡ base w.hart = ap base own in
          absurd (omega arith)

  last_reached : (term : ℕ) (base : ℕ → ℕ) → (cut : ℕ → ℕ) × IsReached s term base None cut
  last_reached term base =
      reached_of term base None (avail_of term base).end
      (λ hart. goes_above (pieces_of s term hart) (base hart) (formed.rises term hart) ((avail_of term base).places hart)
      ((avail_of term base).end hart) ((avail_of term base).goes hart))
      (λ cut a b. tt) (λ cut a b. b)

  next_reached : (term : ℕ) (base limit : ℕ → ℕ) → ((hart : ℕ) → base hart ≤ limit hart) → (cut : ℕ → ℕ) × IsReached s term base (Some limit) cut
  next_reached term base limit below = reached_of term base (Some limit) limit below (λ cut a b. a) (λ cut a b. a)

  -- past the harts a cut is 0
  past_harts : (term : ℕ) (o : OpeningParts) (next : Option (ℕ → ℕ)) (cut : ℕ → ℕ) (hart : ℕ) → opening_at s term ≡ One o →
      IsReached s term (base_of o) next cut → harts ≤ hart → cut hart ≡ 0
  past_harts term o next cut hart one r over =
      let w : cut hart ≤ r.avail.end hart = r.fits.within hart in
      let e : r.avail.end hart ≡ (base_of o) hart = none (r.avail.places hart) (r.avail.end hart) (r.avail.goes hart) in
      let z : (base_of o) hart ≡ 0 = formed.row term o hart one over in
      omega arith
    where
      none : (place end : ℕ) → Goes (pieces_of s term hart) ((base_of o) hart) place end → end ≡ (base_of o) hart
      none zero end e = e
      none (suc place) end (x, g, is, e) = let l : hart < harts = (formed.few term hart place x is).0 in absurd (omega arith)

  -- so is a position's
  pub stops_row : (top term : ℕ) (cut : ℕ → ℕ) (hart : ℕ) → harts ≤ hart → {now : ℕ} → Stops s top term cut now → cut hart ≡ 0
  stops_row top term cut hart over (Last {now = now} o one is_top is r) = past_harts now o None cut hart one r over
  stops_row top term cut hart over (Short {now = now} o n next one two parent chain is r ne) = past_harts now o (Some (base_of n)) cut hart one r over
  stops_row top term cut hart over (On o n next all one two parent chain r e stops) = stops_row top term cut hart over stops

  pub record WalkFrom (top : ℕ) : Type 0 where
    pub root : ℕ
    pub opening : OpeningParts
    pub opens : opening_at s root ≡ One opening
    pub first : opening.parent ≡ 0
    pub in_chain : InChain s root top
    pub term : ℕ
    pub counts : ℕ → ℕ
    pub stops : Stops s top term counts root

  walk_back : (top : ℕ) {now : ℕ} → Sound s now → InChain s now top → (term : ℕ) (cut : ℕ → ℕ) → Stops s top term cut now → WalkFrom top
  walk_back top (Root {term = now} o one first) chain term cut stops =
      record { root = now; opening = o; opens = one; first = first; in_chain = chain; term = term; counts = cut; stops = stops }
  walk_back top (Child {term = now} o p one sound two le) chain term cut stops =
      let (all, r) = next_reached o.parent (base_of p) (base_of o) le in
      let up : InChain s o.parent top = chain_up s now o one chain in
      elim (all_equal harts all (base_of o)) [
        | inl equal ↦
            walk_back top sound up term cut
            (
            On p o now all two one refl chain r
            (λ hart.
            elim (cases_lt hart harts) [
              | inl less ↦ equal hart less
              | inr over ↦ past_harts o.parent p (Some (base_of o)) all hart two r over ∙ sym (formed.row now o hart one over)
            ])
            stops
            )
        | inr (hart, ne) ↦ walk_back top sound up o.parent all (Short p o now two one refl chain refl r (λ e. ne (e hart)))
      ]

  -- a sound term's parent, where it is not 0
  sound_parent : (term : ℕ) (o : OpeningParts) → opening_at s term ≡ One o → (o.parent ≡ 0 → ⊥) → Sound s term →
      Sound s o.parent × ((p : OpeningParts) × (opening_at s o.parent ≡ One p) × ((hart : ℕ) → (base_of p) hart ≤ (base_of o) hart))
  sound_parent term o one not (Root q two first) = absurd (not (ap (λ o. o.parent) (one_same one two) ∙ first))
  sound_parent term o one not (Child q p two sound three le) =
      let e : q ≡ o = one_same two one in (
        subst (λ o. Sound s o.parent) e sound,
        (p, subst (λ o. opening_at s o.parent ≡ One p) e three, subst (λ o. (hart : ℕ) → (base_of p) hart ≤ (base_of o) hart) e le),
      )

  sound_or_not : (fuel term : ℕ) → term < fuel → Sound s term ⊎ (Sound s term → ⊥)
  sound_or_not zero term less = absurd (omega arith)
  sound_or_not (suc fuel) term less =
      elim (see_cell (opening_at s term)) [
        | inr none ↦ inr (λ sound. let (o, one) = sound_opens s term sound in none o one)
        | inl (o, one) ↦
            elim (same_or_not o.parent 0) [
              | inl first ↦ inl (Root o one first)
              | inr not ↦
                  elim (sound_or_not fuel o.parent (let l : o.parent < term = formed.ordered term o one in omega arith)) [
                    | inr fails ↦ inr (λ sound. fails ((sound_parent term o one not sound).0))
                    | inl holds ↦
                        let (p, two) = sound_opens s o.parent holds in
                        elim (all_below harts (base_of p) (base_of o)) [
                          | inl le ↦
                              inl
                              (
                              Child o p one holds two
                              (λ hart.
                              elim (cases_lt hart harts) [
                                | inl under ↦ le hart under
                                | inr over ↦ let z : (base_of p) hart ≡ 0 = formed.row o.parent p hart two over in omega arith
                              ])
                              )
                          | inr (hart, more) ↦
                              inr
                              (λ sound.
                              let (q, three, le) = (sound_parent term o one not sound).1 in
                              let same : q ≡ p = one_same three two in
                              let l : (base_of p) hart ≤ (base_of o) hart = subst (λ q. (base_of q) hart ≤ (base_of o) hart) same (le hart) in
                              omega arith)
                        ]
                  ]
            ]
      ]

  top_below : (n : ℕ) → ((top : ℕ) × Sound s top × ((v : ℕ) → Sound s v → v < n → v ≤ top)) ⊎ ((v : ℕ) → Sound s v → v < n → ⊥)
  top_below zero = inr (λ v sound less. omega arith)
  top_below (suc n) =
      elim (sound_or_not (suc n) n (omega arith)) [
        | inl holds ↦ inl (n, holds, λ v sound less. omega arith)
        | inr fails ↦
            elim (top_below n) [
              | inl (top, sound, best) ↦
                  inl (
                    top,
                    sound,
                    λ v s_v less.
                        elim (cases_lt v n) [
                          | inl before ↦ best v s_v before
                          | inr last ↦ let e : v ≡ n = omega arith in absurd (fails (subst (λ v. Sound s v) e s_v))
                        ],
                  )
              | inr none ↦
                  inr
                  (λ v s_v less.
                  elim (cases_lt v n) [ inl before ↦ none v s_v before | inr last ↦ let e : v ≡ n = omega arith in fails (subst (λ v. Sound s v) e s_v) ])
            ]
      ]

  below_bound : (v : ℕ) → Sound s v → v < bound
  below_bound v sound = let (o, one) = sound_opens s v sound in formed.terms v o one

  -- each count of a cut that is reached is a count
  reached_counts : (term : ℕ) (o : OpeningParts) (next : Option (ℕ → ℕ)) (cut : ℕ → ℕ) (hart : ℕ) → opening_at s term ≡ One o →
      IsReached s term (base_of o) next cut → IsCount (cut hart)
  reached_counts term o next cut hart one r =
      let w : cut hart ≤ r.avail.end hart = r.fits.within hart in
      let c : IsCount (r.avail.end hart) = ends (r.avail.places hart) (r.avail.end hart) (r.avail.goes hart) in
      omega arith
    where
      ends : (place end : ℕ) → Goes (pieces_of s term hart) (base_of o hart) place end → IsCount end
      ends zero end e = subst IsCount (sym e) (formed.base_counts term o hart one)
      ends (suc place) end (x, g, is, e) = subst IsCount (sym e) (formed.end_counts term hart place x is)

  stops_counts : (top term : ℕ) (cut : ℕ → ℕ) (hart : ℕ) → {now : ℕ} → Stops s top term cut now → IsCount (cut hart)
  stops_counts top term cut hart (Last {now = now} o one is_top is r) = reached_counts now o None cut hart one r
  stops_counts top term cut hart (Short {now = now} o n next one two parent chain is r ne) = reached_counts now o (Some (base_of n)) cut hart one r
  stops_counts top term cut hart (On o n next all one two parent chain r e stops) = stops_counts top term cut hart stops

  pub stops_named : (top term : ℕ) (cut : ℕ → ℕ) {now : ℕ} → Stops s top term cut now → (o : OpeningParts) × (opening_at s term ≡ One o)
  stops_named top term cut (Last o one is_top is r) = (o, ap (opening_at s) (sym is) ∙ one)
  stops_named top term cut (Short o n next one two parent chain is r ne) = (o, ap (opening_at s) (sym is) ∙ one)
  stops_named top term cut (On o n next all one two parent chain r e stops) = stops_named top term cut stops

  -- a position whose counts are a row of the harts
  pub record Stands : Type 0 where
    pub at : Position
    pub is : IsPosition s at
    pub harts_are : length at.counts ≡ harts
    pub counts_are : AllByRecursion IsCount at.counts

  zero_counts : (h : ℕ) → count_at (row_of harts (λ h. 0)) h ≡ 0
  zero_counts h = row_at harts (λ h. 0) h (λ le. refl)

  position : Stands
  position =
      elim (top_below bound) [
        | inr none ↦
            record {
              at = record { term = 0; counts = row_of harts (λ h. 0); top = 0 };
              is = NoTop (λ v sound. none v sound (below_bound v sound)) refl zero_counts refl;
              harts_are = row_length harts (λ h. 0);
              counts_are = row_counts harts (λ h. 0) (λ h. omega arith);
            }
        | inl (top, sound, best) ↦
            let (o, one) = sound_opens s top sound in
            let (cut, r) = last_reached top (base_of o) in
            let w : WalkFrom top = walk_back top sound (Self refl) top cut (Last o one refl refl r) in
            let same : (h : ℕ) → count_at (row_of harts w.counts) h ≡ w.counts h =
            λ h. row_at harts w.counts h (λ over. stops_row top w.term w.counts h over w.stops) in
            let is_cut : w.counts ≡ count_at (row_of harts w.counts) = λ i h. sym (same h) i in
            record {
              at = record { term = w.term; counts = row_of harts w.counts; top = top };
              is =
                  Top
                  (
                  record {
                    top = record { sound = sound; greatest = λ v s_v. best v s_v (below_bound v s_v) };
                    root = w.root;
                    opening = w.opening;
                    opens = w.opens;
                    first = w.first;
                    in_chain = w.in_chain;
                    stops = subst (λ c. Stops s top w.term c w.root) is_cut w.stops;
                  }
                  );
              harts_are = row_length harts w.counts;
              counts_are = row_counts harts w.counts (λ h. stops_counts top w.term w.counts h w.stops);
            }
      ]

pub there : HasPosition
there s rules = let p = position s.guest.harts (2 ^ 32) s (formed_of s rules) in (p.at, p.is, p.harts_are, p.counts_are)
