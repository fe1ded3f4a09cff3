-- What the walks over all harts of a term gather, and the greatest closed cut that it gives.
use Rattle.std.proofs.Common.{◌≡◌, inl, inr, ℕ, zero, suc, ◌+◌, ◌<◌, ◌≤◌, min, List, [], ◌∷◌, ◌++◌, Contains, map, set, length, get_or, Option, Some, None}
use Rattle.std.proofs.Common.{MatchOption, ◌↔◌, refl, sym, ap, subst, ◌∙◌, arith, add-one, length-set, get_or-set_same, get_or-set_other}
use Rattle.std.specs.List.{filter_map, AllByRecursion}
use Rattle.std.proofs.lemmas.Bool.{cases_lt, cases_eq}
use Rattle.std.proofs.lemmas.List.Elements.{Contains-append_cases, Contains-append_left, Contains-append_right, Contains-get_or}
use Rattle.std.specs.Option.{option_map, ForSome}
use Rattle.ft_types.proofs.Zips.{length-zipped}
use Rattle.ft_types.specs.Counts.{count_at, lesser, IsWithin}
use Rattle.interleaving.specs.Lists.{put}
use Rattle.interleaving.specs.Log.{Edge as EdgeOfTheory, IsClosed}
use Rattle.interleaving.specs.Cuts.{IsGreatest}
use Rattle.interleaving.proofs.Cuts.{here_or_later}
use Rattle.interleaving.proofs.Put.{put_same, put_other}
use Rattle.edge_log.specs.declared.Edge.{Edge}
use Rattle.edge_log.specs.EdgeLog.{edge_as}
use Rattle.fragment_codec.specs.declared.types.Record.{Record}
use Rattle.fragment_codec.specs.declared.types.Record.TheVariants.{Edge as EdgeRecord, Input as InputRecord, Note as NoteRecord}
use Rattle.fragment_codec.specs.Rules.{FragmentParts, OpeningParts, IsRecordOf}
use Rattle.log_join.specs.Cells.{Cell, Absent, One, Clash}
use Rattle.log_join.specs.Stores.{StoreView, opening_at, IsStore}
use Rattle.fragment_codec.specs.Facts.{edge_in}
use Rattle.closed_cut.specs.Position.{edges_of, pieces_of, Goes, Avail, IsReached}
use Rattle.closed_cut.specs.machinery.Lowering.{AreOf}
use Rattle.closed_cut.specs.machinery.Walks.{cell_edges, hart_edges, all_edges, IsGathered, IsLimited}
use Rattle.closed_cut.proofs.Lowerings.{found, contains_map}
use Rattle.closed_cut.proofs.Walking.{one_same}

-- ---- walks

-- what a longer walk did on its way
pub cut_short : (pieces : ℕ → Cell FragmentParts) (start more place end : ℕ) → Goes pieces start more end → place < more →
    (x : FragmentParts) × Goes pieces start place x.from × (pieces place ≡ One x)
cut_short pieces start zero place end e less = absurd (omega arith)
cut_short pieces start (suc more) place end (x, g, is, e) less =
    elim (cases_lt place more) [
      | inl before ↦ cut_short pieces start more place x.from g before
      | inr later ↦
          let same : more ≡ place = omega arith in
          (x, subst (λ n. Goes pieces start n x.from) same g, subst (λ n. pieces n ≡ One x) same is)
    ]

pub goes_above : (pieces : ℕ → Cell FragmentParts) (start : ℕ) → ((place : ℕ) (x : FragmentParts) → pieces place ≡ One x → x.from < x.to) →
    (place end : ℕ) → Goes pieces start place end → start ≤ end
goes_above pieces start rises zero end e = omega arith
goes_above pieces start rises (suc place) end (x, g, is, e) =
    let a : start ≤ x.from = goes_above pieces start rises place x.from g in let b : x.from < x.to = rises place x is in omega arith

-- ---- the edges of walks

in_cell : (c : Cell FragmentParts) (e : Edge) → Contains (cell_edges c) e → (x : FragmentParts) × (c ≡ One x) × Contains (filter_map edge_in x.records) e
in_cell Absent e (k, below, is) = absurd (omega arith)
in_cell (One x) e has = (x, refl, has)
in_cell Clash e (k, below, is) = absurd (omega arith)

in_hart : (pieces : ℕ → Cell FragmentParts) (n : ℕ) (e : Edge) → Contains (hart_edges pieces n) e →
    (place : ℕ) × (x : FragmentParts) × (place < n) × (pieces place ≡ One x) × Contains (filter_map edge_in x.records) e
in_hart pieces zero e (k, below, is) = absurd (omega arith)
in_hart pieces (suc n) e has =
    elim (Contains-append_cases (hart_edges pieces n) (cell_edges (pieces n)) e has) [
      | inl before ↦ let (place, x, less, is, at) = in_hart pieces n e before in (place, x, omega arith, is, at)
      | inr last ↦ let (x, is, at) = in_cell (pieces n) e last in (n, x, omega arith, is, at)
    ]

of_hart : (pieces : ℕ → Cell FragmentParts) (n place : ℕ) (x : FragmentParts) (e : Edge) → place < n → pieces place ≡ One x →
    Contains (filter_map edge_in x.records) e → Contains (hart_edges pieces n) e
of_hart pieces zero place x e less is has = absurd (omega arith)
of_hart pieces (suc n) place x e less is has =
    elim (cases_lt place n) [
      | inl before ↦ Contains-append_left (hart_edges pieces n) (cell_edges (pieces n)) e (of_hart pieces n place x e before is has)
      | inr last ↦
          let k : place ≡ n = omega arith in
          Contains-append_right (hart_edges pieces n) (cell_edges (pieces n)) e
          (subst (λ c. Contains (cell_edges c) e) (sym (sym (ap pieces k) ∙ is)) has)
    ]

-- an edge of the walks, with its piece
pub record FromPiece (pieces : ℕ → ℕ → Cell FragmentParts) (places : ℕ → ℕ) (harts : ℕ) (e : Edge) : Type 0 where
  pub hart : ℕ
  pub place : ℕ
  pub piece : FragmentParts
  pub below : hart < harts
  pub gone_over : place < places hart
  pub one : pieces hart place ≡ One piece
  pub has : Contains (filter_map edge_in piece.records) e

pub in_all : (pieces : ℕ → ℕ → Cell FragmentParts) (places : ℕ → ℕ) (n : ℕ) (e : Edge) → Contains (all_edges pieces places n) e → FromPiece pieces places n e
in_all pieces places zero e (k, below, is) = absurd (omega arith)
in_all pieces places (suc n) e has =
    elim (Contains-append_cases (all_edges pieces places n) (hart_edges (pieces n) (places n)) e has) [
      | inl before ↦
          let f = in_all pieces places n e before in
          let less : f.hart < n = f.below in
          record { hart = f.hart; place = f.place; piece = f.piece; below = omega arith; gone_over = f.gone_over; one = f.one; has = f.has }
      | inr last ↦
          let (place, x, less, is, at) = in_hart (pieces n) (places n) e last in
          record { hart = n; place = place; piece = x; below = omega arith; gone_over = less; one = is; has = at }
    ]

pub of_all : (pieces : ℕ → ℕ → Cell FragmentParts) (places : ℕ → ℕ) (n : ℕ) (e : Edge) → FromPiece pieces places n e → Contains (all_edges pieces places n) e
of_all pieces places zero e f = let less : f.hart < 0 = f.below in absurd (omega arith)
of_all pieces places (suc n) e f =
    let less : f.hart < suc n = f.below in
    elim (cases_lt f.hart n) [
      | inl before ↦
          Contains-append_left (all_edges pieces places n) (hart_edges (pieces n) (places n)) e
          (of_all pieces places n e (record {
            hart = f.hart;
            place = f.place;
            piece = f.piece;
            below = before;
            gone_over = f.gone_over;
            one = f.one;
            has = f.has;
          }))
      | inr last ↦
          let k : f.hart ≡ n = omega arith in
          Contains-append_right (all_edges pieces places n) (hart_edges (pieces n) (places n)) e
          (subst (λ h. Contains (hart_edges (pieces h) (places h)) e) k (of_hart (pieces f.hart) (places f.hart) f.place f.piece e f.gone_over f.one f.has))
    ]

same_edges : (pieces : ℕ → ℕ → Cell FragmentParts) (p q : ℕ → ℕ) (n : ℕ) → ((h : ℕ) → h < n → p h ≡ q h) → all_edges pieces p n ≡ all_edges pieces q n
same_edges pieces p q zero same = refl
same_edges pieces p q (suc n) same =
    ap (λ l. l ++ hart_edges (pieces n) (p n)) (same_edges pieces p q n (λ h less. same h (omega arith))) ∙
    ap (λ m. all_edges pieces q n ++ hart_edges (pieces n) m) (same n (omega arith))

-- ---- a loop over the harts

-- what was gathered of the first harts
pub record AreGathered (store : StoreView) (term : ℕ) (base bound : List ℕ) (edges : List Edge) (number : ℕ) : Type 0 where
  pub places : ℕ → ℕ
  pub harts : length bound ≡ length base
  pub goes : (h : ℕ) → Goes (pieces_of store term h) (count_at base h) (places h) (count_at bound h)
  pub stops : (h : ℕ) → h < number → (piece : FragmentParts) → pieces_of store term h (places h) ≡ One piece → piece.from ≡ count_at bound h → ⊥
  pub edges_are : edges ≡ all_edges (pieces_of store term) places number

pub gathered_none : (store : StoreView) (term : ℕ) (base : List ℕ) → AreGathered store term base base [] 0
gathered_none store term base =
    record { places = λ h. 0; harts = refl; goes = λ h. refl; stops = λ h less piece one from. absurd (omega arith); edges_are = refl }

module _ (store : StoreView) (term : ℕ) (base bound : List ℕ) (edges new : List Edge) (number end : ℕ) (below : number < length base)
    (so_far : AreGathered store term base bound edges number)
    (more : IsGathered (pieces_of store term number) (count_at base number) edges end new) where
  there : number < length bound
  there = let e : length bound ≡ length base = so_far.harts in omega arith

  goes_after : (h : ℕ) → Goes (pieces_of store term h) (count_at base h) (put so_far.places number more.places h) (count_at (set bound number end) h)
  goes_after h =
      elim (cases_eq h number) [
        | inl same ↦
            rw (same, get_or-set_same bound number end 0 there, put_same so_far.places number number more.places refl) more.goes
        | inr ne ↦
            rw (get_or-set_other bound number h end 0 ne, put_other so_far.places number h more.places (λ e. ne (sym e))) (so_far.goes h)
      ]

  stops_after : (h : ℕ) → h < number + 1 → (piece : FragmentParts) → pieces_of store term h (put so_far.places number more.places h) ≡ One piece →
      piece.from ≡ count_at (set bound number end) h → ⊥
  stops_after h less piece =
      elim (cases_eq h number) [
        | inl same ↦
            rw (same, get_or-set_same bound number end 0 there, put_same so_far.places number number more.places refl) (more.stops piece)
        | inr ne ↦
            rw (get_or-set_other bound number h end 0 ne, put_other so_far.places number h more.places (λ e. ne (sym e))) (so_far.stops h (omega arith) piece)
      ]

  pub gathered_more : AreGathered store term base (set bound number end) new (number + 1)
  gathered_more =
      record {
        places = put so_far.places number more.places;
        harts = length-set bound number end ∙ so_far.harts;
        goes = goes_after;
        stops = stops_after;
        edges_are =
            more.edges ∙
            (ap (λ l. l ++ hart_edges (pieces_of store term number) more.places)
            (so_far.edges_are ∙
            same_edges (pieces_of store term) so_far.places (put so_far.places number more.places) number
            (λ h less. sym (put_other so_far.places number h more.places (λ (e : number ≡ h). absurd (omega arith))))) ∙
            (ap (λ m. all_edges (pieces_of store term) (put so_far.places number more.places) number ++ hart_edges (pieces_of store term number) m)
            (sym (put_same so_far.places number number more.places refl)) ∙
            ap (all_edges (pieces_of store term) (put so_far.places number more.places)) (sym (add-one number))));
      }

pub all_gathered : (store : StoreView) (term : ℕ) (base same bound : List ℕ) (edges : List Edge) (number : ℕ) → same ≡ base → number ≡ length base →
    AreGathered store term same bound edges number → AreGathered store term base bound edges (length base)
all_gathered store term base same bound edges number is all gathered =
    subst (AreGathered store term base bound edges) all (subst (λ b. AreGathered store term b bound edges number) is gathered)

-- an opening has one count for each hart of the guest
pub base_many : (store : StoreView) (o : OpeningParts) → IsStore store → opening_at store o.term ≡ One o → length o.base ≡ store.guest.harts
base_many store o rules one = let fits = rules.openings o.term o one in fits.rules.base ∙ ap (λ g. g.harts) fits.same_guest

-- ---- limits

below_lesser : (a b : List ℕ) (n h : ℕ) → length a ≡ length b → n ≤ count_at (lesser a b) h ↔ ((n ≤ count_at a h) × (n ≤ count_at b h))
below_lesser [] [] n h e = ((λ le. (le, le)), (λ both. both.0))
below_lesser [] (y ∷ ys) n h e = absurd (omega arith)
below_lesser (x ∷ xs) [] n h e = absurd (omega arith)
below_lesser (x ∷ xs) (y ∷ ys) n zero e = ((λ le. ((omega arith), (omega arith))), (λ both. let a : n ≤ x = both.0 in let b : n ≤ y = both.1 in omega arith))
below_lesser (x ∷ xs) (y ∷ ys) n (suc h) e = below_lesser xs ys n h (omega arith)

pub limited_none : (counts : List ℕ) → IsLimited counts None counts
limited_none counts = record { harts = refl; exact = λ cut. ((λ within. (within, tt)), (λ both. both.0)) }

pub limited_some : (counts limit : List ℕ) → length counts ≡ length limit → IsLimited counts (Some limit) (lesser counts limit)
limited_some counts limit e =
    record {
      harts = length-zipped min counts limit e;
      exact = λ cut. (
        (λ within. ((λ h. ((below_lesser counts limit (cut h) h e).0 (within h)).0), (λ h. ((below_lesser counts limit (cut h) h e).0 (within h)).1))),
        (λ both h. (below_lesser counts limit (cut h) h e).1 (both.0 h, both.1 h)),
      );
    }

-- where the limit is above the base
pub above_base : (base : List ℕ) (limit : Option (List ℕ)) → ForSome limit (λ limit. IsWithin base limit) →
    MatchOption (option_map count_at limit) (Unit {0}) (λ limit. (h : ℕ) → count_at base h ≤ limit h)
above_base base None within = tt
above_base base (Some limit) within = within limit refl

-- ---- what is reached

record_of_edge : (P : Record → Type 0) (records : List Record) (e : Edge) → AllByRecursion P records → Contains (filter_map edge_in records) e →
    P (EdgeRecord e)
record_of_edge P [] e all (k, below, is) = absurd (omega arith)
record_of_edge P (EdgeRecord edge ∷ records) e all has =
    elim (here_or_later edge (filter_map edge_in records) e has) [
      | inl same ↦ subst (λ e. P (EdgeRecord e)) same all.0
      | inr later ↦ record_of_edge P records e all.1 later
    ]
record_of_edge P (InputRecord at input ∷ records) e all has = record_of_edge P records e all.1 has
record_of_edge P (NoteRecord at number ∷ records) e all has = record_of_edge P records e all.1 has

module _ (store : StoreView) (rules : IsStore store) (term : ℕ) (base bound : List ℕ) (edges : List Edge) (many : length base ≡ store.guest.harts)
    (gathered : AreGathered store term base bound edges (length base)) where
  abbrev pub pieces : ℕ → ℕ → Cell FragmentParts
  pieces = pieces_of store term

  from_piece : (e : Edge) → Contains edges e → FromPiece pieces gathered.places (length base) e
  from_piece e has = in_all pieces gathered.places (length base) e (subst (λ l. Contains l e) gathered.edges_are has)

  pub rises : (h place : ℕ) (x : FragmentParts) → pieces h place ≡ One x → x.from < x.to
  rises h place x one = (rules.fragments (record { term = term; hart = h; place = place }) x one).rules.some

  -- an edge of a piece is its hart's, between harts that there are, and at no count before the piece
  own : (h place : ℕ) (x : FragmentParts) (e : Edge) → pieces h place ≡ One x → Contains (filter_map edge_in x.records) e →
      (e.hart ≡ h) × (e.other < length base) × (x.from ≤ e.at) × (h < length base)
  own h place x e one has =
      let fits = rules.fragments (record { term = term; hart = h; place = place }) x one in
      let of_piece : IsRecordOf x.guest.harts x.key.hart x.from x.to (EdgeRecord e) =
      record_of_edge (IsRecordOf x.guest.harts x.key.hart x.from x.to) x.records e fits.rules.records.each has in
      let harts : x.guest.harts ≡ store.guest.harts = ap (λ g. g.harts) fits.same_guest in
      let hart : x.key.hart ≡ h = ap (λ k. k.hart) fits.same_key in
      let other : e.other < x.guest.harts = of_piece.0.1 in
      let key : x.key.hart < x.guest.harts = fits.rules.key.hart in
      ((of_piece.0.0 ∙ hart), (omega arith), of_piece.1, (omega arith))

  pub are_of : AreOf (length base) edges
  are_of k d below =
      let f = from_piece (get_or edges k d) (Contains-get_or edges k d below) in
      let o = own f.hart f.place f.piece (get_or edges k d) f.one f.has in
      let less : f.hart < length base = f.below in
      record { hart = (let same : (get_or edges k d).hart ≡ f.hart = o.0 in omega arith); other = o.1 }

  no_further : (h : ℕ) (piece : FragmentParts) → pieces h (gathered.places h) ≡ One piece → piece.from ≡ count_at bound h → ⊥
  no_further h piece one =
      elim (cases_lt h (length base)) [
        | inl less ↦ gathered.stops h less piece one
        | inr over ↦
            let fits = rules.fragments (record { term = term; hart = h; place = gathered.places h }) piece one in
            let harts : piece.guest.harts ≡ store.guest.harts = ap (λ g. g.harts) fits.same_guest in
            let hart : piece.key.hart ≡ h = ap (λ k. k.hart) fits.same_key in
            let key : piece.key.hart < piece.guest.harts = fits.rules.key.hart in
            absurd (omega arith)
      ]

  abbrev avail : Avail store term (count_at base)
  avail = record { places = gathered.places; end = count_at bound; goes = gathered.goes; stops = no_further }

  base_below : (h : ℕ) → count_at base h ≤ count_at bound h
  base_below h = goes_above (pieces h) (count_at base h) (rises h) (gathered.places h) (count_at bound h) (gathered.goes h)

  base_closed : IsClosed (map edge_as edges) (count_at base)
  base_closed x has below =
      let e = found edges x has in
      let f = from_piece e.edge (e.place, e.below, sym e.here) in
      let o = own f.hart f.place f.piece e.edge f.one f.has in
      let (y, goes, one) = cut_short (pieces f.hart) (count_at base f.hart) (gathered.places f.hart) f.place (count_at bound f.hart) (gathered.goes f.hart)
      f.gone_over in
      let from : count_at base f.hart ≤ y.from = goes_above (pieces f.hart) (count_at base f.hart) (rises f.hart) f.place y.from goes in
      let same : y.from ≡ f.piece.from = ap (λ x. x.from) (one_same one f.one) in
      let late : f.piece.from ≤ e.edge.at = o.2 in
      let hart : count_at base e.edge.hart ≡ count_at base f.hart = ap (count_at base) o.0 in
      let step : e.edge.at < count_at base e.edge.hart = subst (λ (x : EdgeOfTheory). x.step < count_at base x.hart) (sym e.is) below in
      absurd (omega arith)

  -- the theory's edges of a piece that was gone over are among those gathered
  among : (h place : ℕ) (x : FragmentParts) (e : EdgeOfTheory) → place < gathered.places h → pieces h place ≡ One x → Contains (edges_of x) e →
      Contains (map edge_as edges) e
  among h place x e less one has =
      let f = found (filter_map edge_in x.records) e has in
      let is_in : Contains (filter_map edge_in x.records) f.edge = (f.place, f.below, sym f.here) in
      let o = own h place x f.edge one is_in in
      subst (Contains (map edge_as edges)) f.is
      (contains_map edges f.edge
      (subst (λ l. Contains l f.edge) (sym gathered.edges_are)
      (of_all pieces gathered.places (length base) f.edge (record {
        hart = h;
        place = place;
        piece = x;
        below = o.3;
        gone_over = less;
        one = one;
        has = is_in;
      }))))

  -- and there are no others
  of_piece : (e : EdgeOfTheory) → Contains (map edge_as edges) e →
      (h place : ℕ) × (x : FragmentParts) × (place < gathered.places h) × (pieces h place ≡ One x) × Contains (edges_of x) e
  of_piece e has =
      let y = found edges e has in
      let f = from_piece y.edge (y.place, y.below, sym y.here) in
      (f.hart, f.place, f.piece, f.gone_over, f.one, subst (Contains (edges_of f.piece)) y.is (contains_map (filter_map edge_in f.piece.records) y.edge f.has))

  pub is_reached : (limit : Option (List ℕ)) (low cut : List ℕ) → IsLimited bound limit low →
      MatchOption (option_map count_at limit) (Unit {0}) (λ limit. (h : ℕ) → count_at base h ≤ limit h) →
      IsGreatest (map edge_as edges) (count_at low) (count_at cut) → IsReached store term (count_at base) (option_map count_at limit) (count_at cut)
  is_reached limit low cut limited above_base greatest =
      record {
        avail = avail;
        fits =
            record {
              above = greatest.greatest (count_at base) base_closed ((limited.exact (count_at base)).1 (base_below, above_base));
              within = below.0;
              before_next = below.1;
              closed = λ h place x e less one has. greatest.closed e (among h place x e less one has);
            };
        greatest =
            λ other fits.
            greatest.greatest other (λ e has. let (h, place, x, less, one, is) = of_piece e has in fits.closed h place x e less one is)
            ((limited.exact other).1 (fits.within, fits.before_next));
      }
    where
      below : ((h : ℕ) → count_at cut h ≤ count_at bound h) × MatchOption (option_map count_at limit) (Unit {0}) (λ limit. (h : ℕ) → count_at cut h ≤ limit h)
      below = (limited.exact (count_at cut)).0 greatest.below
