use Rattle.std.proofs.Common.{ℕ, Option, subst, arith}
use Rattle.moments.specs.Stops.{LastHit}
use Rattle.moments.proofs.Stopping.{back_begins, back_on, stops_back, stops_at_begin, line_on, same_steps}
use Rattle.moments.proofs.timeline.Timeline.back_until.Goals as goal

pub loop-end-init : goal.loop-end-init
loop-end-init c = rw c.now-end.ensures.value (back_begins c.args.points.now c.args.self.now)

pub last_hit-requires-clause-within : goal.last_hit-requires-clause-within
last_hit-requires-clause-within c =
    let a = c.args.self.now in
    let steps = same_steps a c.near.new.self (line_on a c.loop-end.self c.near.new.self c.loop-end.invariant.line c.near.ensures.line) in
    let before = c.loop-end.invariant.before in
    let all = c.now-end.ensures.within in
    let is = c.now-end.ensures.value in
    omega (arith, steps, before, all, is)

pub loop-end-preserved : goal.loop-end-preserved
loop-end-preserved c =
    rw c.now-begin.ensures.value (back_on c.args.points.now c.args.self.now c.loop-end.self c.near.new.self c.loop-end.end c.loop-end.invariant
    c.near.ensures.line c.last_hit.new.self c.last_hit.ensures.line (let before = c.in_ok-near.ensures.before in omega (arith, before))
    (subst (λ (o : Option (ℕ × ℕ)). LastHit c.args.points.now c.near.new.self c.loop-end.end o) c.in_default.is c.in_ok-moment.ensures.last))

pub returns-clause-stopped : goal.returns-clause-stopped
returns-clause-stopped c =
    stops_at_begin c.args.points.now c.args.self.now c.loop-end.self c.go_to-2.new.self c.loop-end.end c.loop-end.invariant (omega arith)
    c.in_ok-go_to-2.ensures.there

pub returns-in-Some-clause-stopped : goal.returns-in-Some-clause-stopped
returns-in-Some-clause-stopped c =
    stops_back c.args.points.now c.args.self.now c.loop-end.self c.near.new.self c.loop-end.end c.loop-end.invariant c.near.ensures.line c.go_to.new.self
    c.in-Some.moment c.in-Some.number
    (subst (λ (o : Option (ℕ × ℕ)). LastHit c.args.points.now c.near.new.self c.loop-end.end o) c.in-Some.is c.in_ok-moment.ensures.last)
    c.in_ok-go_to.ensures.there
