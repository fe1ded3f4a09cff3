use Rattle.std.proofs.Common.{◌≡◌, ℕ, arith, refl, sym, subst}
use Rattle.moments.specs.Points.{HitsAt}
use Rattle.moments.specs.Stops.{LastHit}
use Rattle.moments.proofs.Stopping.{line_kept, line_forward, moment_forward, same_steps, none_between, last_next}
use Rattle.moments.proofs.timeline.Timeline.last_hit.Goals as goal

pub loop-self-init : goal.loop-self-init
loop-self-init c =
    record {
      line = refl;
      later = omega arith;
      within = c.requires.from;
      last = none_between HitsAt c.args.points.now c.args.self.now c.args.self.now.stands.moment c.args.self.now.stands.moment (omega arith);
    }

pub loop-self-preserved : goal.loop-self-preserved
loop-self-preserved c =
    let a = c.args.self.now in
    let b = c.loop-self.self in
    let n = c.forward.new.self in
    let steps = same_steps a b c.loop-self.invariant.line in
    let within = c.requires.within in
    let one =
    moment_forward b n c.in_ok-forward.field-0 c.args.end c.in_ok-forward.ensures.went c.in_ok-forward.ensures.all (omega arith)
    (omega (arith, steps, within)) in
    record {
      line = line_forward a b n c.in_ok-forward.field-0 c.loop-self.invariant.line c.in_ok-forward.ensures.went c.in_ok-forward.ensures.end;
      later = omega (arith, one);
      within = omega (arith, one);
      last =
          subst (λ (k : ℕ). LastHit c.args.points.now a k c.later_hit-last.result) (sym one)
          (last_next c.args.points.now a b c.loop-self.last c.hit-hit.result c.later_hit-last.result c.loop-self.invariant.line c.loop-self.invariant.later
          c.loop-self.invariant.last c.hit-hit.ensures.some c.hit-hit.ensures.none (rw c.now-in-loop-self.ensures.value at c.later_hit-last.ensures.some)
          c.later_hit-last.ensures.none);
    }

pub loop-self-smaller : goal.loop-self-smaller
loop-self-smaller c =
    let a = c.args.self.now in
    let b = c.loop-self.self in
    let n = c.forward.new.self in
    let steps = same_steps a b c.loop-self.invariant.line in
    let within = c.requires.within in
    let one =
    moment_forward b n c.in_ok-forward.field-0 c.args.end c.in_ok-forward.ensures.went c.in_ok-forward.ensures.all (omega arith)
    (omega (arith, steps, within)) in
    omega (arith, one)

pub returns-in_err-forward-clause-line : goal.returns-in_err-forward-clause-line
returns-in_err-forward-clause-line c =
    line_kept c.args.self.now c.loop-self.self c.forward.new.self c.loop-self.invariant.line c.in_err-forward.ensures.kept

pub returns-clause-last : goal.returns-clause-last
returns-clause-last c =
    let within = c.loop-self.invariant.within in
    let end : c.loop-self.self.stands.moment ≡ c.args.end = omega (arith, within) in
    subst (λ (k : ℕ). LastHit c.args.points.now c.args.self.now k c.loop-self.last) end c.loop-self.invariant.last
