-- What stands among a leg's facts, and that the leg's ends are a cut.
use Rattle.std.proofs.Common.{◌≡◌, inl, inr, ℕ, zero, suc, ◌<◌, ◌≤◌, Bool, true, false, cond, List, [], ◌∷◌, Contains, refl, sym, ap, subst, ◌∙◌, arith, nat_lt}
use Rattle.std.specs.List.{filter}
use Rattle.std.proofs.lemmas.Bool.{cases_lt, ltb-true}
use Rattle.std.proofs.lemmas.List.Elements.{Contains-append_cases, Contains-append_right}
use Rattle.ft_types.specs.Counts.{count_at}
use Rattle.interleaving.specs.Log.{Edge, IsClosed}
use Rattle.interleaving.proofs.Cuts.{here, here_or_later}
use Rattle.edge_log.specs.declared.Edge.{Edge as OwnedEdge}
use Rattle.edge_log.specs.EdgeLog.{edge_as}
use Rattle.fragment_codec.specs.declared.types.Record.{Record}
use Rattle.fragment_codec.specs.declared.types.Record.TheVariants.{Edge as EdgeRecord, Input as InputRecord, Note as NoteRecord}
use Rattle.fragment_codec.specs.Rules.{FragmentParts, count_of}
use Rattle.log_join.specs.Cells.{Cell, Absent, One, Clash}
use Rattle.log_join.specs.Stores.{StoreView}
use Rattle.closed_cut.specs.Position.{edges_of as piece_edges, pieces_of, base_of, Goes, Avail, IsReached}
use Rattle.closed_cut.proofs.Walking.{one_same}
use Rattle.closed_cut.proofs.Reach.{cut_short}
use Rattle.hart_replay.specs.declared.plans.PlannedLeg.{PlannedLeg}
use Rattle.hart_replay.specs.Facts.{records_in, records_of, below, edges_among, EndsInside, HasEdges}
use Rattle.hart_replay.specs.Plans.{BeginsAtBase}
use Rattle.hart_replay.proofs.walking.Walk.{Leaves}

-- ---- what is among records

pub in_filter : (p : Record → Bool) (rs : List Record) (r : Record) → Contains (filter p rs) r → Contains rs r × (p r ≡ true)
in_filter p [] r (k, less, is) = absurd (omega arith)
in_filter p (x ∷ rs) r has = go (p x) refl (in_filter p rs r) has
  where
    go : (b : Bool) → p x ≡ b → (Contains (filter p rs) r → Contains rs r × (p r ≡ true)) → Contains (cond b (x ∷ filter p rs) (filter p rs)) r →
        Contains (x ∷ rs) r × (p r ≡ true)
    go true is among has =
        elim (here_or_later x (filter p rs) r has) [
          | inl same ↦ (subst (Contains (x ∷ rs)) same (here x rs), subst (λ r. p r ≡ true) same is)
          | inr later ↦ let (at, tells) = among later in (Contains-append_right (x ∷ []) rs r at, tells)
        ]
    go false is among has = let (at, tells) = among has in (Contains-append_right (x ∷ []) rs r at, tells)

-- an edge among records is one of them
pub edge_record : (rs : List Record) (e : Edge) → Contains (edges_among rs) e → (x : OwnedEdge) × Contains rs (EdgeRecord x) × (edge_as x ≡ e)
edge_record [] e (k, less, is) = absurd (omega arith)
edge_record (EdgeRecord x ∷ rs) e has =
    elim (here_or_later (edge_as x) (edges_among rs) e has) [
      | inl same ↦ (x, here (EdgeRecord x) rs, same)
      | inr later ↦ let (y, at, is) = edge_record rs e later in (y, Contains-append_right (EdgeRecord x ∷ []) rs (EdgeRecord y) at, is)
    ]
edge_record (InputRecord at input ∷ rs) e has =
    let (y, in_rest, is) = edge_record rs e has in (y, Contains-append_right (InputRecord at input ∷ []) rs (EdgeRecord y) in_rest, is)
edge_record (NoteRecord at number ∷ rs) e has =
    let (y, in_rest, is) = edge_record rs e has in (y, Contains-append_right (NoteRecord at number ∷ []) rs (EdgeRecord y) in_rest, is)

pub record_edge : (rs : List Record) (x : OwnedEdge) → Contains rs (EdgeRecord x) → Contains (edges_among rs) (edge_as x)
record_edge [] x (k, less, is) = absurd (omega arith)
record_edge (EdgeRecord y ∷ rs) x has =
    elim (here_or_later (EdgeRecord y) rs (EdgeRecord x) has) [
      | inl same ↦ subst (λ z. Contains (edge_as y ∷ edges_among rs) (edge_as z)) (same_edge same) (here (edge_as y) (edges_among rs))
      | inr later ↦ Contains-append_right (edge_as y ∷ []) (edges_among rs) (edge_as x) (record_edge rs x later)
    ]
  where
    same_edge : EdgeRecord y ≡ EdgeRecord x → y ≡ x
    same_edge e = cc
record_edge (InputRecord at input ∷ rs) x has =
    elim (here_or_later (InputRecord at input) rs (EdgeRecord x) has) [
      | inl same ↦ cc
      | inr later ↦ record_edge rs x later
    ]
record_edge (NoteRecord at number ∷ rs) x has =
    elim (here_or_later (NoteRecord at number) rs (EdgeRecord x) has) [
      | inl same ↦ cc
      | inr later ↦ record_edge rs x later
    ]

-- a record of a piece that was gone over
pub record FromPiece (pieces : ℕ → Cell FragmentParts) (places : ℕ) (r : Record) : Type 0 where
  pub place : ℕ
  pub piece : FragmentParts
  pub gone_over : place < places
  pub one : pieces place ≡ One piece
  pub has : Contains piece.records r

in_cell : (c : Cell FragmentParts) (r : Record) → Contains (records_in c) r → (x : FragmentParts) × (c ≡ One x) × Contains x.records r
in_cell Absent r (k, less, is) = absurd (omega arith)
in_cell (One x) r has = (x, refl, has)
in_cell Clash r (k, less, is) = absurd (omega arith)

pub from_piece : (pieces : ℕ → Cell FragmentParts) (places : ℕ) (r : Record) → Contains (records_of pieces places) r → FromPiece pieces places r
from_piece pieces zero r (k, less, is) = absurd (omega arith)
from_piece pieces (suc n) r has =
    elim (Contains-append_cases (records_of pieces n) (records_in (pieces n)) r has) [
      | inl before ↦
          let f = from_piece pieces n r before in
          let less : f.place < n = f.gone_over in
          record { place = f.place; piece = f.piece; gone_over = omega arith; one = f.one; has = f.has }
      | inr last ↦
          let (x, is, at) = in_cell (pieces n) r last in
          record { place = n; piece = x; gone_over = omega arith; one = is; has = at }
    ]

-- an edge of a leg's facts, with its piece
pub record FactEdge (pieces : ℕ → Cell FragmentParts) (places end : ℕ) (e : Edge) : Type 0 where
  pub edge : OwnedEdge
  pub from : FromPiece pieces places (EdgeRecord edge)
  pub inside : e.step < end
  pub is : edge_as edge ≡ e

pub fact_edge : (pieces : ℕ → Cell FragmentParts) (places end : ℕ) (e : Edge) → Contains (edges_among (below end (records_of pieces places))) e →
    FactEdge pieces places end e
fact_edge pieces places end e has =
    let (x, at, is) = edge_record (below end (records_of pieces places)) e has in
    let (in_records, less) = in_filter (λ fact. nat_lt (count_of fact) end) (records_of pieces places) (EdgeRecord x) at in
    record {
      edge = x;
      from = from_piece pieces places (EdgeRecord x) in_records;
      inside = subst (λ (e : Edge). e.step < end) is (ltb-true x.at end less);
      is = is;
    }

-- ---- there is one walk

one_end : (pieces : ℕ → Cell FragmentParts) (start place a b : ℕ) → Goes pieces start place a → Goes pieces start place b → a ≡ b
one_end pieces start zero a b x y = x ∙ sym y
one_end pieces start (suc n) a b (x, gx, isx, ex) (y, gy, isy, ey) = ex ∙ (ap (λ f. f.to) (one_same isx isy) ∙ sym ey)

no_shorter : (pieces : ℕ → Cell FragmentParts) (start n a m b : ℕ) → Goes pieces start n a → Goes pieces start m b →
    ((f : FragmentParts) → pieces n ≡ One f → f.from ≡ a → ⊥) → n < m → ⊥
no_shorter pieces start n a m b short long stops less =
    let (x, goes, one) = cut_short pieces start m n b long less in
    stops x one (one_end pieces start n x.from a goes short)

pub one_avail : (store : StoreView) (term : ℕ) (base : ℕ → ℕ) (a b : Avail store term base) (hart : ℕ) → a.places hart ≡ b.places hart
one_avail store term base a b hart =
    elim (cases_lt (a.places hart) (b.places hart)) [
      | inl less ↦
          absurd (no_shorter (pieces_of store term hart) (base hart) (a.places hart) (a.end hart) (b.places hart) (b.end hart) (a.goes hart) (b.goes hart)
          (a.stops hart) less)
      | inr le ↦
          elim (cases_lt (b.places hart) (a.places hart)) [
            | inl less ↦
                absurd (no_shorter (pieces_of store term hart) (base hart) (b.places hart) (b.end hart) (a.places hart) (a.end hart) (b.goes hart) (a.goes hart)
                (b.stops hart) less)
            | inr more ↦ omega arith
          ]
    ]

-- ---- the ends of a leg are a cut

pub ends_inside : (store : StoreView) (leg : PlannedLeg) → BeginsAtBase store leg → Leaves store leg.term (count_at leg.ends) → HasEdges store leg →
    EndsInside store leg
ends_inside store leg base leaves edges =
    record {
      avail = reached.avail;
      within = reached.fits.within;
      cut = record { from_start = above; to_end = λ hart. omega arith; closed = (edges.same_order.cuts (count_at leg.ends) above).1 closed };
    }
  where
    same_base : base_of leaves.opening ≡ count_at leg.base
    same_base = ap count_at (ap (λ o. o.base) (one_same leaves.opens base.opens) ∙ sym base.base)

    reached : IsReached store leg.term (count_at leg.base) leaves.limit (count_at leg.ends)
    reached = subst (λ b. IsReached store leg.term b leaves.limit (count_at leg.ends)) same_base leaves.reached

    above : (hart : ℕ) → count_at leg.base hart ≤ count_at leg.ends hart
    above = reached.fits.above

    closed : IsClosed edges.all (count_at leg.ends)
    closed e has less =
        let (hart, at) = (edges.exact e).0 has in
        let f = fact_edge (pieces_of store leg.term hart) (edges.avail.places hart) (count_at leg.ends hart) e at in
        let same = one_avail store leg.term (count_at leg.base) edges.avail reached.avail hart in
        let over : f.from.place < edges.avail.places hart = f.from.gone_over in
        reached.fits.closed hart f.from.place f.from.piece e (omega arith) f.from.one
        (subst (Contains (piece_edges f.from.piece)) f.is (record_edge f.from.piece.records f.edge f.from.has)) less
