-- What it means where a walk stops.
use Rattle.std.proofs.Common.{◌≡◌, inl, inr, ℕ, suc, ◌<◌, ◌≤◌, ◌^◌, List, Contains, Option, Some, None, IfSome, IfNone, refl, sym, ap, subst, ◌∙◌, arith}
use Rattle.std.proofs.Common.{le_trans}
use Rattle.std.proofs.lemmas.Bool.{cases_lt, cases_eq}
use Rattle.interleaving.specs.Lists as theory
use Rattle.edge_log.specs.declared.Edge.{Edge}
use Rattle.fragment_codec.specs.Rules.{FragmentParts, OpeningParts}
use Rattle.log_join.specs.Cells.{Cell, One}
use Rattle.log_join.specs.Stores.{StoreView, IsStore, opening_at}
use Rattle.closed_cut.specs.Position.{pieces_of, Goes, base_of}
use Rattle.closed_cut.proofs.Walking.{one_same}
use Rattle.tracked_position.specs.declared.walk.Cursor.{Cursor}
use Rattle.tracked_position.specs.declared.walk.Ahead.{Ahead}
use Rattle.tracked_position.specs.declared.walk.Ahead.TheVariants.{Unseen, End, Waits}
use Rattle.tracked_position.specs.machinery.Cuts.{edges_in, Meets, GoesOver, ComesTo}
use Rattle.tracked_position.specs.machinery.Walks.{GoesTo, StopsBefore, EndsAt, IsAhead, IsOver, stop_count, other_of}
use Rattle.tracked_position.specs.machinery.Waits.{IsWaiting, limited_to}
use Rattle.std.specs.Option.{option_map}
use Rattle.ft_types.specs.Counts.{count_at}
use Rattle.tracked_position.proofs.Cuts.{before_end, over_of, goes_rise, rises, own, end_count}

-- the walk came further, and met all on its way
pub over_on : (pieces : ℕ → Cell FragmentParts) (start : ℕ) (cut : ℕ → ℕ) (ceiling : ℕ) (from to : Cursor) →
    ((place : ℕ) (x : FragmentParts) (e : Edge) → pieces place ≡ One x → Contains (edges_in x) e → e.at < ceiling) → IsOver pieces start cut from →
    GoesTo pieces cut ceiling from to → IsAhead pieces cut to to.ahead → IsOver pieces start cut to
over_on pieces start cut ceiling from to below over goes seen =
    record {
      goes = goes.goes start over.goes;
      met =
          λ place x e less one has.
          elim (cases_lt place from.place) [
            | inl before ↦ over.met place x e before one has
            | inr behind ↦ goes.met place x e behind less one has (below place x e one has)
          ];
      seen = seen;
    }

-- what is seen ahead stays so where the counts rise
ahead_more : (pieces : ℕ → Cell FragmentParts) (cut more : ℕ → ℕ) (at : Cursor) (ahead : Ahead) → theory.IsWithin cut more → IsAhead pieces cut at ahead →
    IsAhead pieces more at ahead
ahead_more pieces cut more at Unseen within is = tt
ahead_more pieces cut more at End within is = is
ahead_more pieces cut more at (Waits e) within is =
    record {
      piece = is.piece;
      one = is.one;
      from = is.from;
      has = is.has;
      below = is.below;
      first = λ other has less. le_trans (is.first other has less) (within other.other);
    }

-- and what is met stays so
pub over_more : (pieces : ℕ → Cell FragmentParts) (start : ℕ) (cut more : ℕ → ℕ) (at : Cursor) → theory.IsWithin cut more → IsOver pieces start cut at →
    IsOver pieces start more at
over_more pieces start cut more at within over =
    record {
      goes = over.goes;
      met = λ place x e less one has. le_trans (over.met place x e less one has) (within e.other);
      seen = ahead_more pieces cut more at at.ahead within over.seen;
    }

-- where there is no next piece, no walk goes further
pub last_end_of : (s : StoreView) → IsStore s → (term : ℕ) (base : ℕ → ℕ) (hart : ℕ) (at : Cursor) → Goes (pieces_of s term hart) (base hart) at.place at.end →
    EndsAt (pieces_of s term hart) at → (place end : ℕ) → Goes (pieces_of s term hart) (base hart) place end → end ≤ at.end
last_end_of s rules term base hart at there ends place end goes =
    elim (cases_lt at.place place) [
      | inl past ↦
          let (x, g) = over_of (pieces_of s term hart) (base hart) place at.place end goes past in
          let less : at.place < at.place = before_end (pieces_of s term hart) (base hart) at.place at.end at.place x there ends g in
          absurd (omega arith)
      | inr fine ↦ goes_rise (pieces_of s term hart) (base hart) (rises s rules term hart) place at.place end at.end goes there fine
    ]

-- a walk that comes to a count comes to each lower one
pub comes_less : (pieces : ℕ → Cell FragmentParts) (start count less : ℕ) → less ≤ count → ComesTo pieces start count → ComesTo pieces start less
comes_less pieces start count less le comes = record { place = comes.place; end = comes.end; goes = comes.goes; far = le_trans le comes.far }

module _ (s : StoreView) (rules : IsStore s) (term : ℕ) (base cut : ℕ → ℕ) (hart ceiling : ℕ) (at : Cursor)
    (over : IsOver (pieces_of s term hart) (base hart) cut at) where
  pub stop_comes : (edge : Option Edge) → IfSome edge (StopsBefore (pieces_of s term hart) cut ceiling at) →
      ComesTo (pieces_of s term hart) (base hart) (stop_count at edge)
  stop_comes None before = record { place = at.place; end = at.end; goes = over.goes; far = omega arith }
  stop_comes (Some e) before =
      let to : e.at < before.piece.to = (own s rules term hart at.place before.piece e before.one before.least.has).to in
      record {
        place = suc at.place;
        end = before.piece.to;
        goes = (before.piece, subst (λ n. Goes (pieces_of s term hart) (base hart) at.place n) (sym before.from) over.goes, before.one, refl);
        far = omega arith;
      }

  pub stop_below : (o : OpeningParts) → opening_at s term ≡ One o → base ≡ base_of o → ceiling ≤ 2 ^ 48 → (edge : Option Edge) →
      IfSome edge (StopsBefore (pieces_of s term hart) cut ceiling at) → stop_count at edge < 2 ^ 48
  stop_below o opens is limit None before =
      end_count s rules term o opens hart at.place at.end (subst (λ (b : ℕ → ℕ). Goes (pieces_of s term hart) (b hart) at.place at.end) is over.goes)
  stop_below o opens is limit (Some e) before = let less : e.at < ceiling = before.least.below in omega arith

  -- the edges below the count at which it stopped are met
  pub stop_met : (edge : Option Edge) → IfSome edge (StopsBefore (pieces_of s term hart) cut ceiling at) → IfNone edge (EndsAt (pieces_of s term hart) at) →
      (place : ℕ) (x : FragmentParts) (e : Edge) → GoesOver (pieces_of s term hart) (base hart) place x → Contains (edges_in x) e →
      e.at < stop_count at edge → Meets cut e
  stop_met None before ends place x e goes has less =
      over.met place x e (before_end (pieces_of s term hart) (base hart) at.place at.end place x over.goes ends goes) goes.one has
  stop_met (Some b) before ends place x e goes has less =
      elim (cases_lt place at.place) [
        | inl passed ↦ over.met place x e passed goes.one has
        | inr behind ↦
            elim (cases_eq place at.place) [
              | inl same ↦
                  let piece : before.piece ≡ x = one_same before.one (sym (ap (pieces_of s term hart) same) ∙ goes.one) in
                  before.least.first e (subst (λ (y : FragmentParts). Contains (edges_in y) e) (sym piece) has) less
              | inr ne ↦
                  let to : b.at < before.piece.to = (own s rules term hart at.place before.piece b before.one before.least.has).to in
                  let up : before.piece.to ≤ x.from =
                  goes_rise (pieces_of s term hart) (base hart) (rises s rules term hart) (suc at.place) place before.piece.to x.from
                  (before.piece, subst (λ n. Goes (pieces_of s term hart) (base hart) at.place n) (sym before.from) over.goes, before.one, refl) goes.goes
                  (omega arith) in
                  let from : x.from ≤ e.at = (own s rules term hart place x e goes.one has).from in
                  absurd (omega arith)
            ]
      ]

  -- where the walk has ended, and the hart has come as far
  pub ended_waits : (limit : Option (ℕ → ℕ)) → EndsAt (pieces_of s term hart) at → at.end ≤ cut hart → IsWaiting s term base limit cut hart None
  ended_waits limit ends le =
      λ other is.
      let w = is.within hart in le_trans w.far (le_trans (last_end_of s rules term base hart at over.goes ends w.place w.end w.goes) le)

  -- where it is as far as the walk came, or at its limit
  pub stop_waits : (limit : Option (List ℕ)) (edge : Option Edge) → IfSome edge (StopsBefore (pieces_of s term hart) cut ceiling at) →
      IfNone edge (EndsAt (pieces_of s term hart) at) → limited_to limit hart (stop_count at edge) ≡ stop_count at edge → stop_count at edge ≤ cut hart →
      IsWaiting s term base (option_map count_at limit) cut hart (other_of edge)
  stop_waits limit None before ends whole le = ended_waits (option_map count_at limit) ends le
  stop_waits limit (Some e) before ends whole le =
      record {
        place = at.place;
        piece = before.piece;
        edge = e;
        over =
            record { goes = subst (λ n. Goes (pieces_of s term hart) (base hart) at.place n) (sym before.from) over.goes; one = before.one };
        has = before.least.has;
        here = le;
        for = refl;
        unmet = before.least.unmet;
      }

-- a walk that no edge can stop ends with the pieces
pub run_last : (s : StoreView) → IsStore s → (term : ℕ) (base : ℕ → ℕ) (cut : ℕ → ℕ) (hart : ℕ) (at : Cursor) (edge : Option Edge) →
    Goes (pieces_of s term hart) (base hart) at.place at.end → IfSome edge (StopsBefore (pieces_of s term hart) cut 0 at) →
    IfNone edge (EndsAt (pieces_of s term hart) at) → (place end : ℕ) → Goes (pieces_of s term hart) (base hart) place end → end ≤ at.end
run_last s rules term base cut hart at None goes before ends place end g = last_end_of s rules term base hart at goes ends place end g
run_last s rules term base cut hart at (Some e) goes before ends place end g = let less : e.at < 0 = before.least.below in absurd (omega arith)
