use Rattle.std.proofs.Common.{refl}
use Rattle.moments.specs.machinery.Machines.{standing_of}
use Rattle.moments.proofs.Lines.{same_timeline, same_line, kept_timeline}
use Rattle.moments.proofs.timeline.Timeline.keep.Goals as goal

pub invariant_of-self : goal.invariant_of-self
invariant_of-self c = (
  same_timeline _ _ _ _ _ _ c.self.invariant.0 (standing_of c.shared.new.snapshot) c.self.inside.stops c.shared.ensures.kept refl,
  c.self.invariant.1,
)

pub returns-in_err-copy : goal.returns-in_err-copy
returns-in_err-copy c =
    same_line _ _ _ _ _ _ c.self.invariant.0 c.args.self.now c.self.view_is (standing_of c.shared.new.snapshot) c.shared.ensures.kept

pub invariant_of-self-in_err-push : goal.invariant_of-self-in_err-push
invariant_of-self-in_err-push c = (
  rw c.in_err-push.ensures.items
      (same_timeline _ _ _ _ _ _ c.self.invariant.0 (standing_of c.shared.new.snapshot) c.self.inside.stops c.shared.ensures.kept refl),
  c.self.invariant.1,
)

pub returns-in_err-push : goal.returns-in_err-push
returns-in_err-push c =
    same_line _ _ _ _ _ _ c.self.invariant.0 c.args.self.now c.self.view_is (standing_of c.shared.new.snapshot) c.shared.ensures.kept

pub invariant_of-self-2 : goal.invariant_of-self-2
invariant_of-self-2 c = (
  rw c.in_ok-push.ensures.items
      (kept_timeline _ _ _ _ _ _ c.self.invariant.0 c.self.inside.kept.items c.in_ok-copy.copy (standing_of c.shared.new.snapshot) refl
      c.in_ok-copy.ensures.same c.shared.ensures.kept),
  c.self.invariant.1,
)

pub returns : goal.returns
returns c = same_line _ _ _ _ _ _ c.self.invariant.0 c.args.self.now c.self.view_is (standing_of c.shared.new.snapshot) c.shared.ensures.kept
