use Rattle.moments.proofs.Stopping.{clear_begins, clear_on, stops_watched, stops_broken, stops_at_end, line_kept}
use Rattle.moments.proofs.timeline.Timeline.until.Goals as goal

pub loop-number-init : goal.loop-number-init
loop-number-init c = clear_begins c.args.points.now c.args.self.now

pub loop-number-preserved : goal.loop-number-preserved
loop-number-preserved c =
    clear_on c.args.points.now c.args.self.now c.loop-number.self c.forward.new.self c.loop-number.invariant
    (c.in_ok-forward.ensures.went c.if-not-branch.false) c.in_default.ensures.none c.in_default-broken.ensures.none

pub returns-then-not-branch-clause-line : goal.returns-then-not-branch-clause-line
returns-then-not-branch-clause-line c =
    line_kept c.args.self.now c.loop-number.self c.forward.new.self c.loop-number.invariant.line
    (c.in_ok-forward.ensures.end c.if-not-branch.true).0

pub returns-then-not-branch-clause-stopped : goal.returns-then-not-branch-clause-stopped
returns-then-not-branch-clause-stopped c =
    stops_at_end c.args.points.now c.args.self.now c.loop-number.self c.forward.new.self c.loop-number.invariant
    (c.in_ok-forward.ensures.end c.if-not-branch.true).0 (c.in_ok-forward.ensures.end c.if-not-branch.true).1

pub returns-in-Some-clause-stopped : goal.returns-in-Some-clause-stopped
returns-in-Some-clause-stopped c =
    stops_watched c.args.points.now c.args.self.now c.loop-number.self c.forward.new.self c.loop-number.invariant
    (c.in_ok-forward.ensures.went c.if-not-branch.false) c.in-Some.number c.in-Some.ensures.some

pub returns-in-Some-broken-clause-stopped : goal.returns-in-Some-broken-clause-stopped
returns-in-Some-broken-clause-stopped c =
    stops_broken c.args.points.now c.args.self.now c.loop-number.self c.forward.new.self c.loop-number.invariant
    (c.in_ok-forward.ensures.went c.if-not-branch.false) c.in-Some-broken.number c.in-Some-broken.ensures.some
