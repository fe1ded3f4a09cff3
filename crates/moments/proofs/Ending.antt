-- A timeline whose harts are at the ends of its leg.
use Rattle.std.proofs.Common.{◌≡◌, ℕ, ◌≤◌, List, length, slice_get, Some, subst, arith}
use Rattle.ft_types.specs.Guests.{GuestParts}
use Rattle.hart_replay.specs.declared.plans.PlannedLeg.{PlannedLeg}
use Rattle.hart_replay.specs.Leading.{AreAtEnds, ComesShort}
use Rattle.least_cuts.proofs.Legs.{one_leg}
use Rattle.hart_replay.specs.declared.fault.ReplayFault.{ReplayFault}
use Rattle.plan_lines.specs.Line.{LineView, InLeg, NoneMayGo, Standing, IsAtEnd, GetsStuck, steps_of}
use Rattle.plan_lines.specs.machinery.Kept.{IsTimeline}
use Rattle.moments.proofs.Keeping.{ended_all, none_all}
use Rattle.moments.proofs.Lines.{line_of, leads_here, in_no_leg}

-- it is at its end, and took each step
pub record HasEnded (v : LineView) : Type 0 where
  pub end : IsAtEnd v
  pub all : v.stands.moment ≡ steps_of v.legs

module _ (guest : GuestParts) (legs : List PlannedLeg) (first now : Standing) (snapshots : List Standing) (stops : List ℕ)
    (is : IsTimeline guest legs first now snapshots stops) (v : LineView) (view : line_of guest legs first now ≡ v) where
  -- in its leg
  pub ended_in_leg : (leg : PlannedLeg) → slice_get v.legs v.stands.place ≡ Some leg → AreAtEnds now.machine leg.ends → HasEnded v
  ended_in_leg =
      subst (λ (u : LineView). (leg : PlannedLeg) → slice_get u.legs u.stands.place ≡ Some leg → AreAtEnds now.machine leg.ends → HasEnded u) view
      (λ leg at ends.
      record {
        end =
            record {
              last = is.turned leg at ends;
              ends = λ other found.
                  subst (λ (l : PlannedLeg). AreAtEnds now.machine l.ends) (one_leg legs now.place leg other at found) ends;
            };
        all = ended_all guest legs first is.begun now leg is.stands at is.turned ends;
      })

  -- where its plan has none
  pub ended_in_none : length v.legs ≤ v.stands.place → HasEnded v
  ended_in_none =
      subst (λ (u : LineView). length u.legs ≤ u.stands.place → HasEnded u) view
      (λ over.
      record {
        end =
            record {
              last = omega (arith, over);
              ends = in_no_leg (line_of guest legs first now) (λ leg. AreAtEnds now.machine leg.ends) over;
            };
        all = none_all guest legs first is.begun now is.stands over;
      })

  -- and where not all of them are, and none may go
  pub stuck_in_leg : (leg : PlannedLeg) (f : ReplayFault) → slice_get v.legs v.stands.place ≡ Some leg →
      InLeg v (λ l. NoneMayGo l v.stands.machine) → ComesShort now.machine leg.ends f → GetsStuck v f
  stuck_in_leg leg f at none short =
      record {
        standing = v.stands;
        leads = leads_here guest legs first now snapshots stops is v view;
        leg = leg;
        found = at;
        none = none leg at;
        short = subst (λ (u : LineView). ComesShort u.stands.machine leg.ends f) view short;
      }
