-- The frames of a primary's whole log reach its end.
use Rattle.std.proofs.Common.{◌≡◌, ℕ, zero, suc, ◌+◌, ◌-◌, ◌^◌, ◌<◌, ◌≤◌, List, [], ◌∷◌, length, map, Contains, filter, get_or, slice_index_or, replicate, Option, Some, None}
use Rattle.std.proofs.Common.{refl, sym, ap, subst, ◌∙◌, ◌⊎◌, inl, inr, arith, Bool, true, false, cond}
use Rattle.std.specs.Ordering.{nat_cmp, eq_by_cmp}
use Rattle.std.specs.declared.cmp.Ordering.{Ordering}
use Rattle.std.specs.declared.cmp.Ordering.TheVariants.{Equal}
use Rattle.std.specs.Cmp.{IsTotalOrder, nat_cmp_total, Equal-is, eq_by_cmp_equiv}
use Rattle.std.specs.FinMap as finite
use Rattle.std.proofs.lemmas.Map.Lookups.{exact_unsigned}
use Rattle.std.specs.List.{filter_map, flat_map}
use Rattle.std.proofs.lemmas.Bool.{cases_lt}
use Rattle.std.proofs.lemmas.List.Elements.{Contains-append_cases, Contains-append_left, Contains-append_right}
use Rattle.interleaving.specs.Log.{Edge, IsClosed}
use Rattle.interleaving.proofs.Cuts.{here, here_or_later}
use Rattle.ft_types.specs.Counts.{count_at}
use Rattle.ft_types.specs.Guests.{GuestParts}
use Rattle.edge_log.specs.EdgeLog.{edge_as, edges_of, row_of}
use Rattle.edge_log.proofs.Logs.{map_contains, contains_map, to_edges}
use Rattle.hart_lease.specs.Runs.{counts_of}
use Rattle.page_book.specs.Books.{BookView}
use Rattle.book_modes.specs.Recordings.{RecordingView}
use Rattle.fragment_codec.specs.declared.frame.Frame.{Frame}
use Rattle.fragment_codec.specs.declared.frame.Frame.TheVariants.{Log, Opening}
use Rattle.fragment_codec.specs.declared.types.Key.{Key}
use Rattle.fragment_codec.specs.Rules.{FragmentParts, OpeningParts}
use Rattle.fragment_codec.specs.Facts.{edge_in, Facts, is_between}
use Rattle.log_pieces.specs.Pieces.{HartLog, Mark, IsPiece, ArePieces, IsHartCut, mark_behind, mark_of, book_log}
use Rattle.log_join.specs.Cells.{Cell, Absent, One, join_cell, cell_of}
use Rattle.frame_content.specs.Tests.{same_opening, same_fragment}
use Rattle.log_join.specs.Laws.{CellsJoin}
use Rattle.log_join.proofs.Cells.{cells_join}
use Rattle.log_join.proofs.Told.{openings_told, fragments_told}
use Rattle.log_join.proofs.Joins.{keys_total, keys_exact}
use Rattle.log_join.proofs.Gathered.{all_of, gathered_cell, only_gathered_in}
use Rattle.log_join.specs.Coming.{Gathers, HasOnly}
use Rattle.log_join.specs.Stores.{StoreView, key_cmp, opening_at, fragment_at, alone}
use Rattle.closed_cut.specs.Chain.{Sound, Root, Child}
use Rattle.closed_cut.specs.Position.{pieces_of, base_of, edges_of as edges_told, Goes, Avail, Fits, IsReached, Stops, Last, Short, On, IsPosition, NoTop, Top}
use Rattle.ft_types.specs.declared.position.Position.{Position}
use Rattle.closed_cut.proofs.Chains.{zero_row}
use Rattle.hart_replay.proofs.honesty.Primaries.{passed}
use Rattle.log_streams.specs.Primary.{AreFramesOf}
use Rattle.log_streams.specs.Ends.{IsEndOf, LeavePlaces, ReachItsEnd}

-- ---- pieces of a hart, by their place

-- the piece at a place of a row, counted from 0
abbrev nth : List FragmentParts → ℕ → Option FragmentParts
nth [] i = None
nth (x ∷ xs) zero = Some x
nth (x ∷ xs) (suc i) = nth xs i

nth_below : (xs : List FragmentParts) (i : ℕ) (x : FragmentParts) → nth xs i ≡ Some x → i < length xs
nth_below [] i x is = let no : None ≡ Some x = is in cc
nth_below (y ∷ xs) zero x is = omega arith
nth_below (y ∷ xs) (suc i) x is = let less : i < length xs = nth_below xs i x is in omega arith

nth_there : (xs : List FragmentParts) (i : ℕ) → i < length xs → (x : FragmentParts) × (nth xs i ≡ Some x)
nth_there [] i less = absurd (omega arith)
nth_there (y ∷ xs) zero less = (y, refl)
nth_there (y ∷ xs) (suc i) less = nth_there xs i (omega arith)

nth_in : (xs : List FragmentParts) (i : ℕ) (x : FragmentParts) → nth xs i ≡ Some x → Contains xs x
nth_in [] i x is = let no : None ≡ Some x = is in cc
nth_in (y ∷ xs) zero x is = let same : y ≡ x = cc in subst (Contains (y ∷ xs)) same (here y xs)
nth_in (y ∷ xs) (suc i) x is = Contains-append_right (y ∷ []) xs x (nth_in xs i x is)

-- the count at which the piece at a place begins
abbrev begins_at : ℕ → List FragmentParts → ℕ → ℕ
begins_at from xs zero = from
begins_at from [] (suc i) = from
begins_at from (x ∷ xs) (suc i) = begins_at x.to xs i

-- what is of the piece at a place
record IsPlaced (log : HartLog) (old : Mark) (xs : List FragmentParts) (i : ℕ) (x : FragmentParts) : Type 0 where
  mark : Mark
  piece : IsPiece log mark x
  place : x.key.place ≡ old.place + i
  from : x.from ≡ begins_at old.count xs i
  to : begins_at old.count xs (suc i) ≡ x.to

placed : (log : HartLog) (old new : Mark) (xs : List FragmentParts) → ArePieces log old xs new → (i : ℕ) (x : FragmentParts) → nth xs i ≡ Some x → IsPlaced log old xs i x
placed log old new [] row i x is = let no : None ≡ Some x = is in cc
placed log old new (y ∷ xs) row zero x is =
    let same : y ≡ x = cc in
    subst (IsPlaced log old (y ∷ xs) zero) same
    (record {
      mark = old;
      piece = row.0;
      place = let e : y.key.place ≡ old.place = ap (λ (k : Key). k.place) row.0.key in omega arith;
      from = row.0.begins;
      to = refl;
    })
placed log old new (y ∷ xs) row (suc i) x is =
    let p = placed log (mark_behind y) new xs row.1 i x is in
    let e : y.key.place ≡ old.place = ap (λ (k : Key). k.place) row.0.key in
    let f : x.key.place ≡ y.key.place + 1 + i = p.place in
    record { mark = p.mark; piece = p.piece; place = omega arith; from = p.from; to = p.to }

-- each piece of a row stands at its place
in_place : (log : HartLog) (old new : Mark) (xs : List FragmentParts) → ArePieces log old xs new → (x : FragmentParts) → Contains xs x →
    (i : ℕ) × (x.key.place ≡ old.place + i) × (nth xs i ≡ Some x)
in_place log old new [] row x (k, below, is) = absurd (omega arith)
in_place log old new (y ∷ xs) row x has =
    elim (here_or_later y xs x has) [
      | inl same ↦
          let e : y.key.place ≡ old.place = ap (λ (k : Key). k.place) row.0.key in
          let f : x.key.place ≡ y.key.place = ap (λ (p : FragmentParts). p.key.place) (sym same) in
          (0, omega arith, ap (λ p. Some p) same)
      | inr later ↦
          let (i, at, is) = in_place log (mark_behind y) new xs row.1 x later in
          let e : y.key.place ≡ old.place = ap (λ (k : Key). k.place) row.0.key in
          let f : x.key.place ≡ y.key.place + 1 + i = at in
          (suc i, omega arith, is)
    ]

last_mark : (log : HartLog) (old new : Mark) (xs : List FragmentParts) → ArePieces log old xs new →
    record { 0 : new.place ≡ old.place + length xs; 1 : new.count ≡ begins_at old.count xs (length xs) }
last_mark log old new [] row = let p = ap (λ (m : Mark). m.place) row in (omega (arith, p), ap (λ (m : Mark). m.count) row)
last_mark log old new (y ∷ xs) row =
    let (place, count) = last_mark log (mark_behind y) new xs row.1 in
    let e : y.key.place ≡ old.place = ap (λ (k : Key). k.place) row.0.key in
    let f : new.place ≡ y.key.place + 1 + length xs = place in
    (omega arith, count)

-- ---- rows of all harts

in_rows : (rows : List (List FragmentParts)) (x : FragmentParts) → Contains (flat_map (λ row. row) rows) x → (h : ℕ) × Contains (get_or rows h []) x
in_rows [] x (k, below, is) = absurd (omega arith)
in_rows (row ∷ rows) x has =
    elim (Contains-append_cases row (flat_map (λ row. row) rows) x has) [
      | inl first ↦ (0, first)
      | inr later ↦ let (n, is_in) = in_rows rows x later in (suc n, is_in)
    ]

of_rows : (rows : List (List FragmentParts)) (h : ℕ) (x : FragmentParts) → Contains (get_or rows h []) x → Contains (flat_map (λ row. row) rows) x
of_rows [] h x (k, below, is) = absurd (omega arith)
of_rows (row ∷ rows) zero x has = Contains-append_left row (flat_map (λ row. row) rows) x has
of_rows (row ∷ rows) (suc h) x has = Contains-append_right row (flat_map (λ row. row) rows) x (of_rows rows h x has)

-- ---- cells of a store that gathered frames

module _ {X : Type 0} (same : X → X → Bool) (laws : CellsJoin same) (bring : Frame → Cell X) (x : X) where
  none_or_one : (frames : List Frame) → ((f : Frame) → Contains frames f → (bring f ≡ Absent) ⊎ (bring f ≡ One x)) →
      (all_of same laws (map bring frames) ≡ Absent) ⊎ (all_of same laws (map bring frames) ≡ One x)
  none_or_one [] each = inl refl
  none_or_one (f ∷ frames) each =
      joined (bring f) (all_of same laws (map bring frames)) (each f (here f frames))
      (none_or_one frames (λ g has. each g (Contains-append_right (f ∷ []) frames g has)))
    where
      joined : (a b : Cell X) → (a ≡ Absent) ⊎ (a ≡ One x) → (b ≡ Absent) ⊎ (b ≡ One x) → (join_cell same a b ≡ Absent) ⊎ (join_cell same a b ≡ One x)
      joined a b (inl e) (inl f) = inl (ap (λ c. join_cell same c b) e ∙ f)
      joined a b (inl e) (inr f) = inr (ap (λ c. join_cell same c b) e ∙ f)
      joined a b (inr e) (inl f) = inr (ap (λ c. join_cell same c b) e ∙ ap (join_cell same (One x)) f)
      joined a b (inr e) (inr f) = inr (ap (λ c. join_cell same c b) e ∙ (ap (join_cell same (One x)) f ∙ laws.idempotent (One x)))

  -- where one frame brings it and no other brings anything else, it is all that there is
  one_of_all : (frames : List Frame) → ((f : Frame) → Contains frames f → (bring f ≡ Absent) ⊎ (bring f ≡ One x)) →
      (f : Frame) → Contains frames f → bring f ≡ One x → all_of same laws (map bring frames) ≡ One x
  one_of_all [] each f (k, below, is) brings = absurd (omega arith)
  one_of_all (g ∷ frames) each f has brings =
      elim (here_or_later g frames f has) [
        | inl first ↦
            first_brings (all_of same laws (map bring frames)) (ap bring first ∙ brings)
            (none_or_one frames (λ h is_in. each h (Contains-append_right (g ∷ []) frames h is_in)))
        | inr later ↦
            rest_brings (bring g) (each g (here g frames))
            (one_of_all frames (λ h is_in. each h (Contains-append_right (g ∷ []) frames h is_in)) f later brings)
      ]
    where
      first_brings : (b : Cell X) → bring g ≡ One x → (b ≡ Absent) ⊎ (b ≡ One x) → join_cell same (bring g) b ≡ One x
      first_brings b e (inl f) = ap (λ c. join_cell same c b) e ∙ ap (join_cell same (One x)) f
      first_brings b e (inr f) = ap (λ c. join_cell same c b) e ∙ (ap (join_cell same (One x)) f ∙ laws.idempotent (One x))

      rest_brings : (a : Cell X) → (a ≡ Absent) ⊎ (a ≡ One x) → all_of same laws (map bring frames) ≡ One x →
          join_cell same a (all_of same laws (map bring frames)) ≡ One x
      rest_brings a (inl e) f = ap (λ c. join_cell same c (all_of same laws (map bring frames))) e ∙ f
      rest_brings a (inr e) f =
          ap (λ c. join_cell same c (all_of same laws (map bring frames))) e ∙ (ap (join_cell same (One x)) f ∙ laws.idempotent (One x))

-- ---- the store of one frame

module _ {K X : Type 0} (R : K → K → Ordering) (total : IsTotalOrder R) (exact : (a b : K) → R a b ≡ Equal → a ≡ b) (k : K) (v : X) where
  cell_by : (q : K) (b : Bool) → eq_by_cmp R q k ≡ b → (cell_of {X = X} (cond b (Some (Some v)) (finite.get (finite.empty {R = R}) q)) ≡ Absent) ⊎
      record { 0 : q ≡ k; 1 : cell_of {X = X} (cond b (Some (Some v)) (finite.get (finite.empty {R = R}) q)) ≡ One v }
  cell_by q true e = inr (exact q k ((Equal-is (R q k)).0 e), refl)
  cell_by q false e = inl (ap cell_of (finite.get-empty R q))

  cell_alone : (q : K) → (cell_of {X = X} (finite.get (finite.insert (finite.empty {R = R}) k (Some v)) q) ≡ Absent) ⊎
      record { 0 : q ≡ k; 1 : cell_of {X = X} (finite.get (finite.insert (finite.empty {R = R}) k (Some v)) q) ≡ One v }
  cell_alone q =
      let e = ap cell_of (finite.get-insert total (finite.empty {R = R}) k (Some v) q) in
      elim (cell_by q (eq_by_cmp R q k) refl) [ inl none ↦ inl (e ∙ none) | inr one ↦ inr (one.0, e ∙ one.1) ]

  cell_own : cell_of {X = X} (finite.get (finite.insert (finite.empty {R = R}) k (Some v)) k) ≡ One v
  cell_own = ap cell_of (finite.get-insert total finite.empty k (Some v) k) ∙ ap (λ b. cell_of {X = X} (cond b (Some (Some v)) (finite.get (finite.empty {R = R}) k))) ((eq_by_cmp_equiv total).refl k)

-- ---- the frames of a book, in a store

module _ (guest : GuestParts) (b : BookView RecordingView) (frames : List Frame) (are : AreFramesOf guest b frames) (store : StoreView)
    (gathers : Gathers guest frames store) where
  abbrev opening : OpeningParts
  opening = record { guest = guest; term = 1; parent = 0; base = replicate guest.harts 0 }

  abbrev row : ℕ → List FragmentParts
  row hart = slice_index_or are.cut.pieces hart []

  abbrev log : ℕ → HartLog
  log hart = book_log guest 1 b hart

  row_cut : (hart : ℕ) → IsHartCut (log hart) (mark_of are.uncut hart) (row hart) (mark_of are.seals hart)
  row_cut hart = are.cut.each hart

  -- the book's only opening
  its_opening : (o : OpeningParts) → Contains frames (Opening o) → o ≡ opening
  its_opening o has =
      elim (here_or_later (Opening opening) are.pieces (Opening o) (subst (λ fs. Contains fs (Opening o)) are.opened has)) [
        | inl same ↦ let e : Opening opening ≡ Opening o = same in cc
        | inr later ↦
            let (x, there, is) = map_contains Log (flat_map (λ r. r) are.cut.pieces) (Opening o) (subst (λ fs. Contains fs (Opening o)) are.cut.in_turn later) in
            let no : Log x ≡ Opening o = is in cc
      ]

  -- a piece stands in its hart's row, at its place
  record Stands (x : FragmentParts) : Type 0 where
    is_term : x.key.term ≡ 1
    at_place : nth (row x.key.hart) x.key.place ≡ Some x

  stands_in : (hart : ℕ) (x : FragmentParts) → Contains (row hart) x → Stands x
  stands_in hart x has =
      let c = row_cut hart in
      let (i, place, is) = in_place (log hart) (mark_of are.uncut hart) (mark_of are.seals hart) (row hart) c.row x has in
      let p = placed (log hart) (mark_of are.uncut hart) (mark_of are.seals hart) (row hart) c.row i x is in
      let own : x.key.hart ≡ hart = ap (λ (k : Key). k.hart) p.piece.key in
      let first : (mark_of are.uncut hart).place ≡ 0 = ap (λ (m : Mark). m.place) (are.from_boot hart) in
      let at : i ≡ x.key.place = omega arith in
      record {
        is_term = ap (λ (k : Key). k.term) p.piece.key;
        at_place = subst (λ h. nth (row h) x.key.place ≡ Some x) (sym own) (subst (λ n. nth (row hart) n ≡ Some x) at is);
      }

  stands : (x : FragmentParts) → Contains frames (Log x) → Stands x
  stands x has =
      elim (here_or_later (Opening opening) are.pieces (Log x) (subst (λ fs. Contains fs (Log x)) are.opened has)) [
        | inl same ↦ let no : Opening opening ≡ Log x = same in cc
        | inr later ↦
            let (y, there, is) = map_contains Log (flat_map (λ r. r) are.cut.pieces) (Log x) (subst (λ fs. Contains fs (Log x)) are.cut.in_turn later) in
            let e : y ≡ x = cc in
            let (hart, in_row) = in_rows are.cut.pieces x (subst (Contains (flat_map (λ r. r) are.cut.pieces)) e there) in
            stands_in hart x in_row
      ]

  of_row : (hart : ℕ) (x : FragmentParts) → Contains (row hart) x → Contains frames (Log x)
  of_row hart x has =
      subst (λ fs. Contains fs (Log x)) (sym are.opened)
      (Contains-append_right (Opening opening ∷ []) are.pieces (Log x)
      (subst (λ fs. Contains fs (Log x)) (sym are.cut.in_turn) (contains_map Log (flat_map (λ r. r) are.cut.pieces) x (of_rows are.cut.pieces hart x has))))

  only : HasOnly frames store
  only = only_gathered_in (cells_join openings_told) (cells_join fragments_told) guest frames store gathers

  opens : opening_at store 1 ≡ One opening
  opens =
      gathered_cell same_opening (cells_join openings_told) guest (λ s. opening_at s 1) (ap cell_of (finite.get-empty nat_cmp 1)) (λ x y z j. j.openings 1) frames store gathers ∙
      one_of_all same_opening (cells_join openings_told) (λ f. opening_at (alone f) 1) opening frames each (Opening opening)
      (subst (λ fs. Contains fs (Opening opening)) (sym are.opened) (here (Opening opening) are.pieces)) (cell_own nat_cmp nat_cmp_total exact_unsigned 1 opening)
    where
      each : (f : Frame) → Contains frames f → (opening_at (alone f) 1 ≡ Absent) ⊎ (opening_at (alone f) 1 ≡ One opening)
      each (Log x) has = inl (ap cell_of (finite.get-empty nat_cmp 1))
      each (Opening o) has =
          elim (cell_alone nat_cmp nat_cmp_total exact_unsigned o.term o 1) [
            | inl none ↦ inl none
            | inr one ↦ inr (one.1 ∙ ap One (its_opening o has))
          ]

  holds : (x : FragmentParts) → Contains frames (Log x) → fragment_at store x.key ≡ One x
  holds x has =
      gathered_cell same_fragment (cells_join fragments_told) guest (λ s. fragment_at s x.key) (ap cell_of (finite.get-empty key_cmp x.key)) (λ a c d j. j.fragments x.key) frames store gathers ∙
      one_of_all same_fragment (cells_join fragments_told) (λ f. fragment_at (alone f) x.key) x frames each (Log x) has (cell_own key_cmp keys_total keys_exact x.key x)
    where
      each : (f : Frame) → Contains frames f → (fragment_at (alone f) x.key ≡ Absent) ⊎ (fragment_at (alone f) x.key ≡ One x)
      each (Opening o) its = inl (ap cell_of (finite.get-empty key_cmp x.key))
      each (Log y) its =
          elim (cell_alone key_cmp keys_total keys_exact y.key y x.key) [
            | inl none ↦ inl none
            | inr one ↦
                let a : nth (row y.key.hart) y.key.place ≡ Some y = (stands y its).at_place in
                let c : nth (row x.key.hart) x.key.place ≡ Some x = (stands x has).at_place in
                let same : Some y ≡ Some x = sym a ∙ (ap (λ (k : Key). nth (row k.hart) k.place) (sym one.0) ∙ c) in
                let e : y ≡ x = cc in
                inr (one.1 ∙ ap One e)
          ]

  -- what stands at a place of a hart
  at_place : (hart place : ℕ) (x : FragmentParts) → pieces_of store 1 hart place ≡ One x → nth (row hart) place ≡ Some x
  at_place hart place x one =
      let (has, key) = only.fragments (record { term = 1; hart = hart; place = place }) x one in
      subst (λ (k : Key). nth (row k.hart) k.place ≡ Some x) key (stands x has).at_place

  there_at : (hart place : ℕ) (x : FragmentParts) → nth (row hart) place ≡ Some x → pieces_of store 1 hart place ≡ One x
  there_at hart place x is =
      let c = row_cut hart in
      let p = placed (log hart) (mark_of are.uncut hart) (mark_of are.seals hart) (row hart) c.row place x is in
      let first : (mark_of are.uncut hart).place ≡ 0 = ap (λ (m : Mark). m.place) (are.from_boot hart) in
      let e : x.key.term ≡ 1 = ap (λ (k : Key). k.term) p.piece.key in
      let f : x.key.hart ≡ hart = ap (λ (k : Key). k.hart) p.piece.key in
      let g : x.key.place ≡ place = let h : x.key.place ≡ (mark_of are.uncut hart).place + place = p.place in omega arith in
      let key : x.key ≡ record { term = 1; hart = hart; place = place } = cc in
      subst (λ k. fragment_at store k ≡ One x) key (holds x (of_row hart x (nth_in (row hart) place x is)))

  abbrev begun : ℕ → ℕ → ℕ
  begun hart place = begins_at 0 (row hart) place

  row_placed : (hart place : ℕ) (x : FragmentParts) → nth (row hart) place ≡ Some x → record { 0 : x.from ≡ begun hart place; 1 : begun hart (suc place) ≡ x.to }
  row_placed hart place x is =
      let c = row_cut hart in
      let p = placed (log hart) (mark_of are.uncut hart) (mark_of are.seals hart) (row hart) c.row place x is in
      let first : (mark_of are.uncut hart).count ≡ 0 = ap (λ (m : Mark). m.count) (are.from_boot hart) in
      (p.from ∙ ap (λ n. begins_at n (row hart) place) first, sym (ap (λ n. begins_at n (row hart) (suc place)) first) ∙ p.to)

  -- a walk over a hart's pieces goes over its row
  walked : (hart place end : ℕ) → Goes (pieces_of store 1 hart) 0 place end → record { 0 : place ≤ length (row hart); 1 : end ≡ begun hart place }
  walked hart zero end goes = (omega arith, goes)
  walked hart (suc place) end (x, goes, one, is) =
      let at = at_place hart place x one in
      let less : place < length (row hart) = nth_below (row hart) place x at in
      (omega arith, is ∙ sym (row_placed hart place x at).1)

  -- and one that goes no further goes over it all
  walked_all : (hart place end : ℕ) → Goes (pieces_of store 1 hart) 0 place end →
      ((x : FragmentParts) → pieces_of store 1 hart place ≡ One x → x.from ≡ end → ⊥) → end ≡ begun hart (length (row hart))
  walked_all hart place end goes stops =
      let (within, is) = walked hart place end goes in
      elim (cases_lt place (length (row hart))) [
        | inl less ↦
            let (x, at) = nth_there (row hart) place less in
            absurd (stops x (there_at hart place x at) ((row_placed hart place x at).0 ∙ sym is))
        | inr over ↦ let all : place ≡ length (row hart) = omega arith in is ∙ ap (begun hart) all
      ]

  -- the places of a row are not used up
  places_left : (limit hart : ℕ) → 0 < limit → ((x : FragmentParts) → Contains frames (Log x) → x.key.place + 1 < limit) →
      (mark_of are.seals hart).place ≡ limit → ⊥
  places_left limit hart some leaves used =
      let c = row_cut hart in
      let (place, count) = last_mark (log hart) (mark_of are.uncut hart) (mark_of are.seals hart) (row hart) c.row in
      let first : (mark_of are.uncut hart).place ≡ 0 = ap (λ (m : Mark). m.place) (are.from_boot hart) in
      let (x, at) = nth_there (row hart) (limit - 1) (omega arith) in
      let p = placed (log hart) (mark_of are.uncut hart) (mark_of are.seals hart) (row hart) c.row (limit - 1) x at in
      let here : x.key.place ≡ (mark_of are.uncut hart).place + (limit - 1) = p.place in
      let less : x.key.place + 1 < limit = leaves x (of_row hart x (nth_in (row hart) (limit - 1) x at)) in
      omega arith

  module _ (leaves : LeavePlaces frames) where
    -- a row goes to the settled count
    to_end : (hart : ℕ) → begun hart (length (row hart)) ≡ counts_of b.machine hart
    to_end hart =
        let c = row_cut hart in
        let (place, count) = last_mark (log hart) (mark_of are.uncut hart) (mark_of are.seals hart) (row hart) c.row in
        let first : (mark_of are.uncut hart).count ≡ 0 = ap (λ (m : Mark). m.count) (are.from_boot hart) in
        sym (count ∙ ap (λ n. begins_at n (row hart) (length (row hart))) first) ∙
        elim c.end [ inl all ↦ all | inr used ↦ absurd (places_left (2 ^ 32) hart (omega arith) leaves used) ]

    base_is_0 : (hart : ℕ) → base_of opening hart ≡ 0
    base_is_0 hart = zero_row guest.harts hart

    avail_is : (base : ℕ → ℕ) → ((hart : ℕ) → base hart ≡ 0) → (a : Avail store 1 base) → (hart : ℕ) → a.end hart ≡ counts_of b.machine hart
    avail_is base none a hart =
        walked_all hart (a.places hart) (a.end hart) (subst (λ n. Goes (pieces_of store 1 hart) n (a.places hart) (a.end hart)) (none hart) (a.goes hart)) (a.stops hart) ∙
        to_end hart

    -- an edge of a piece is of the book's log
    edge_told : (hart place : ℕ) (x : FragmentParts) (e : Edge) → pieces_of store 1 hart place ≡ One x → Contains (edges_told x) e → Contains (edges_of b.mode.edges) e
    edge_told hart place x e one has =
        let c = row_cut hart in
        let p = placed (log hart) (mark_of are.uncut hart) (mark_of are.seals hart) (row hart) c.row place x (at_place hart place x one) in
        let (logged, there, is) = map_contains edge_as (filter_map edge_in x.records) e has in
        let exact : filter_map edge_in x.records ≡ filter (λ e. is_between x.from x.to e.at) (row_of b.mode.edges hart) = ap (λ (f : Facts). f.edges) p.piece.exact in
        let in_row = (passed (λ e. is_between x.from x.to e.at) (row_of b.mode.edges hart) logged (subst (λ es. Contains es logged) exact there)).0 in
        subst (Contains (edges_of b.mode.edges)) is (to_edges b.mode.edges.rows hart logged in_row)

    -- what is reached of the term is the settled counts
    reached_is : (base : ℕ → ℕ) → ((hart : ℕ) → base hart ≡ 0) → IsClosed (edges_of b.mode.edges) (counts_of b.machine) → (cut : ℕ → ℕ) →
        IsReached store 1 base None cut → (hart : ℕ) → cut hart ≡ counts_of b.machine hart
    reached_is base none closed cut r hart =
        let most : counts_of b.machine hart ≤ cut hart = r.greatest (counts_of b.machine) all hart in
        let least : cut hart ≤ r.avail.end hart = r.fits.within hart in
        let end : r.avail.end hart ≡ counts_of b.machine hart = avail_is base none r.avail hart in
        omega arith
      where
        all : Fits store 1 base None r.avail (counts_of b.machine)
        all =
            record {
              above = λ h. let z : base h ≡ 0 = none h in omega arith;
              within = λ h. let e : r.avail.end h ≡ counts_of b.machine h = avail_is base none r.avail h in omega arith;
              before_next = tt;
              closed = λ h place x e less one has below. closed e (edge_told h place x e one has) below;
            }

    one_opening : (term : ℕ) (o : OpeningParts) → opening_at store term ≡ One o → record { 0 : term ≡ 1; 1 : o ≡ opening }
    one_opening term o one =
        let (has, at) = only.openings term o one in
        let is : o ≡ opening = its_opening o has in
        (sym at ∙ ap (λ (o : OpeningParts). o.term) is, is)

    one_sound : (term : ℕ) → Sound store term → term ≡ 1
    one_sound term (Root o one first) = (one_opening term o one).0
    one_sound term (Child o p one sound two le) = (one_opening term o one).0

    stops_at : IsClosed (edges_of b.mode.edges) (counts_of b.machine) → (top term : ℕ) (cut : ℕ → ℕ) (now : ℕ) → Stops store top term cut now →
        record { 0 : term ≡ 1; 1 : (hart : ℕ) → cut hart ≡ counts_of b.machine hart }
    stops_at closed top term cut now (Last o one is_top is r) =
        let (now_1, same) = one_opening now o one in (
          sym is ∙ now_1,
          reached_is (base_of o) (λ h. ap (λ o. base_of o h) same ∙ base_is_0 h) closed cut (subst (λ n. IsReached store n (base_of o) None cut) now_1 r),
        )
    stops_at closed top term cut now (Short o n next one two parent chain is r ne) =
        let (now_1, same) = one_opening now o one in
        let child : n.parent ≡ 0 = ap (λ (o : OpeningParts). o.parent) (one_opening next n two).1 in
        absurd (omega arith)
    stops_at closed top term cut now (On o n next all one two parent chain r eq stops) =
        let (now_1, same) = one_opening now o one in
        let child : n.parent ≡ 0 = ap (λ (o : OpeningParts). o.parent) (one_opening next n two).1 in
        absurd (omega arith)

    ends : IsClosed (edges_of b.mode.edges) (counts_of b.machine) → (position : Position) → IsPosition store position → IsEndOf b position
    ends closed position (NoTop none term zeros top) = absurd (none 1 (Root opening opens refl))
    ends closed position (Top w) =
        let s = stops_at closed position.top position.term (count_at position.counts) w.root w.stops in
        record { term = s.0; top = one_sound position.top w.top.sound; counts = s.1 }

pub reach_its_end : (guest : GuestParts) (b : BookView RecordingView) (frames : List Frame) → AreFramesOf guest b frames →
    IsClosed (edges_of b.mode.edges) (counts_of b.machine) → ReachItsEnd guest b frames
reach_its_end guest b frames are closed leaves store position gathers is = ends guest b frames are store gathers leaves closed position is
