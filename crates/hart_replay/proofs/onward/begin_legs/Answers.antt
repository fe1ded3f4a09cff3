use Rattle.std.proofs.Common.{rules, arith, ◌<◌, ◌≤◌, length, refl}
use Rattle.hart_replay.proofs.Fronts.{all_alike, front_here}
use Rattle.hart_replay.proofs.onward.begin_legs.Goals as goal

pub returns : goal.returns
returns c =
    let end : length c.args.first.now ≤ c.loop-i.i = search rules in
    (λ e. all_alike c.args.first.now c.args.second.now c.loop-i.i end c.loop-i.invariant, λ e. refl)

pub returns-then-not-same_leg : goal.returns-then-not-same_leg
returns-then-not-same_leg c =
    let lt : c.loop-i.i < length c.args.first.now = omega (arith, c.loop-i-test.true) in (
      λ e. cc,
      λ front.
          let same =
          c.same_leg.ensures.1
          (front_here c.args.first.now c.args.second.now front c.loop-i.i c.index-first-i.result c.index-second-i.result lt c.index-first-i.is
          c.index-second-i.is) in
          cc,
    )
