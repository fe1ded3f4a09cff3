-- A timeline that takes the step that comes next.
use Rattle.std.proofs.Common.{◌≡◌, ℕ, ◌+◌, ◌-◌, ◌<◌, ◌≤◌, List, length, slice_get, slice_index_or, Some, ap, sym, subst, ◌∙◌, arith}
use Rattle.ft_types.specs.Guests.{GuestParts}
use Rattle.hart_replay.specs.declared.plans.PlannedLeg.{PlannedLeg}
use Rattle.hart_replay.proofs.Fronts.{at_place}
use Rattle.least_cuts.proofs.Legs.{one_leg}
use Rattle.plan_lines.specs.Line.{LineView, InLeg, IsNext, Steps, Standing, stepped, Leads, steps_of}
use Rattle.plan_lines.specs.Line.{StepsOn}
use Rattle.plan_lines.specs.machinery.Kept.{IsTimeline, AreQuiet, QuietAt, IsTurned}
use Rattle.moments.proofs.Keeping.{step_room}
use Rattle.moments.proofs.Lines.{line_of}

module _ (guest : GuestParts) (legs : List PlannedLeg) (first now : Standing) (snapshots : List Standing) (stops : List ℕ)
    (is : IsTimeline guest legs first now snapshots stops) (v : LineView) (view : line_of guest legs first now ≡ v)
    (place : v.stands.place < length v.legs) where
  -- the leg at its place, as the code finds it
  module _ (shown : List PlannedLeg) (same : shown ≡ legs) (leg : PlannedLeg) (found : leg ≡ slice_index_or shown now.place leg) where
    leg_here : slice_get legs now.place ≡ Some leg
    leg_here = ap (λ (l : List PlannedLeg). slice_get l now.place) (sym same) ∙ at_place shown now.place leg below found
      where
        below : now.place < length shown
        below =
            let lt : now.place < length legs = subst (λ (u : LineView). u.stands.place < length u.legs) (sym view) place in
            let many : length shown ≡ length legs = ap length same in
            omega (arith, lt, many)

    pub quiet_here : AreQuiet leg now.machine stops
    quiet_here = is.quiet leg leg_here

    -- it stays quiet there
    pub quiet_went : (went : Standing) (marks : List ℕ) → went.place ≡ now.place → AreQuiet leg went.machine marks → QuietAt legs went marks
    quiet_went went marks stays quiet other at =
        subst (λ (l : PlannedLeg). AreQuiet l went.machine marks) (one_leg legs now.place leg other leg_here (ap (slice_get legs) (sym stays) ∙ at)) quiet

    -- the hart that comes next
    module _ (hart : ℕ) (next : InLeg v (λ l. IsNext l v.stands.machine hart)) where
      pub next_here : IsNext leg now.machine hart
      next_here = subst (λ (u : LineView). InLeg u (λ l. IsNext l u.stands.machine hart)) (sym view) next leg leg_here

      -- the line has room for its step
      pub room_here : now.moment < steps_of legs
      room_here = let room = step_room guest legs first is.begun now leg hart is.stands leg_here next_here in omega (arith, room)

      pub room_in_view : v.stands.moment < steps_of v.legs
      room_in_view = subst (λ (u : LineView). u.stands.moment < steps_of u.legs) view room_here

      -- the step, and turns
      pub gone_on : (went turned : Standing) (marks : List ℕ) → Steps leg now.machine hart went.machine → went.place ≡ now.place →
          went.moment ≡ now.moment + 1 → ((s : Standing) → Leads legs s went → Leads legs s turned) → turned.place ≤ length legs - 1 →
          IsTurned legs turned → QuietAt legs turned marks → IsTimeline guest legs first turned snapshots marks
      gone_on went turned marks steps stays one on within is_turned quiet =
          record {
            begun = is.begun;
            stands = record { leads = on first leads; place = within };
            kept = is.kept;
            turned = is_turned;
            quiet = quiet;
          }
        where
          is_went : stepped now went.machine ≡ went
          is_went = λ i. record { place = sym stays i; moment = sym one i; machine = went.machine }

          leads : Leads legs first went
          leads = subst (λ (s : Standing). Leads legs first s) is_went (StepsOn leg hart went.machine is.stands.leads leg_here next_here steps)
