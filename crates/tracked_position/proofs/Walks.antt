-- Walks that go on.
use Rattle.std.proofs.Common.{◌≡◌, inl, inr, ℕ, ◌+◌, ◌<◌, ◌≤◌, ◌^◌, Contains, Option, Some, None, IfSome, IfNone, sym, ap, subst, ◌∙◌, arith}
use Rattle.std.proofs.lemmas.Bool.{cases_lt}
use Rattle.edge_log.specs.declared.Edge.{Edge}
use Rattle.fragment_codec.specs.Rules.{FragmentParts}
use Rattle.log_join.specs.Cells.{Cell, One}
use Rattle.closed_cut.proofs.Walking.{one_same, goes_on}
use Rattle.tracked_position.specs.declared.walk.Cursor.{Cursor}
use Rattle.tracked_position.specs.declared.walk.Ahead.{Ahead}
use Rattle.tracked_position.specs.declared.walk.Ahead.TheVariants.{Unseen, Waits}
use Rattle.tracked_position.specs.machinery.Cuts.{edges_in, Meets}
use Rattle.tracked_position.specs.machinery.Walks.{GoesTo, StopsBefore, EndsAt, IsFacing, IsAhead, ahead_of}

pub goes_nowhere : (pieces : ℕ → Cell FragmentParts) (cut : ℕ → ℕ) (ceiling : ℕ) (at : Cursor) → GoesTo pieces cut ceiling at at
goes_nowhere pieces cut ceiling at =
    record { goes = λ start goes. goes; ahead = omega arith; met = λ place piece e from to. absurd (omega arith) }

pub goes_over_one : (pieces : ℕ → Cell FragmentParts) (cut : ℕ → ℕ) (ceiling : ℕ) (from at : Cursor) (piece : FragmentParts) →
    GoesTo pieces cut ceiling from at → pieces at.place ≡ One piece → piece.from ≡ at.end →
    ((e : Edge) → Contains (edges_in piece) e → e.at < ceiling → Meets cut e) →
    GoesTo pieces cut ceiling from (record { place = at.place + 1; end = piece.to; ahead = Unseen })
goes_over_one pieces cut ceiling from at piece so_far one same fine =
    let ahead : from.place ≤ at.place = so_far.ahead in
    record {
      goes = λ start goes. goes_on pieces start at.place at.end piece (so_far.goes start goes) one same;
      ahead = omega arith;
      met =
          λ place x e over under is has below.
          elim (cases_lt place at.place) [
            | inl before ↦ so_far.met place x e over before is has below
            | inr last ↦
                let here_is : place ≡ at.place = omega arith in
                let same_piece : piece ≡ x = one_same one (sym (ap pieces here_is) ∙ is) in
                fine e (subst (λ (y : FragmentParts). Contains (edges_in y) e) (sym same_piece) has) below
          ];
    }

-- ---- what was seen ahead

-- a hart that waits for an edge waits for it while the counts do not meet it
pub facing_stops : (pieces : ℕ → Cell FragmentParts) (cut : ℕ → ℕ) (at : Cursor) (ahead : Ahead) (e : Edge) → ahead ≡ Waits e → cut e.other < e.after →
    IsAhead pieces cut at ahead → StopsBefore pieces cut (2 ^ 48) at e
facing_stops pieces cut at ahead e is unmet seen =
    let f : IsFacing pieces cut at e = subst (IsAhead pieces cut at) is seen in
    record {
      piece = f.piece;
      one = f.one;
      from = f.from;
      least = record { has = f.has; below = f.below; unmet = unmet; first = f.first };
    }

module _ (pieces : ℕ → Cell FragmentParts) (cut : ℕ → ℕ) (at : Cursor) where
  pub goes_seen : (from : Cursor) (ahead : Ahead) → GoesTo pieces cut (2 ^ 48) from at →
      GoesTo pieces cut (2 ^ 48) from (record { place = at.place; end = at.end; ahead = ahead })
  goes_seen from ahead to = record { goes = to.goes; ahead = to.ahead; met = to.met }

  pub stops_seen : (edge : Option Edge) (ahead : Ahead) → IfSome edge (StopsBefore pieces cut (2 ^ 48) at) →
      IfSome edge (StopsBefore pieces cut (2 ^ 48) (record { place = at.place; end = at.end; ahead = ahead }))
  stops_seen None ahead before = tt
  stops_seen (Some e) ahead before = record { piece = before.piece; one = before.one; from = before.from; least = before.least }

  pub stop_seen : (edge : Option Edge) → IfSome edge (StopsBefore pieces cut (2 ^ 48) at) → IfNone edge (EndsAt pieces at) →
      IsAhead pieces cut (record { place = at.place; end = at.end; ahead = ahead_of edge }) (ahead_of edge)
  stop_seen None before ends = ends
  stop_seen (Some e) before ends =
      record {
        piece = before.piece;
        one = before.one;
        from = before.from;
        has = before.least.has;
        below = before.least.below;
        first = before.least.first;
      }
