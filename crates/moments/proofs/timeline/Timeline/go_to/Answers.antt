use Rattle.std.proofs.Common.{arith}
use Rattle.moments.proofs.Stopping.{line_kept, line_forward, moment_forward, same_steps}
use Rattle.moments.proofs.timeline.Timeline.go_to.Goals as goal

pub loop-self-preserved : goal.loop-self-preserved
loop-self-preserved c =
    let b = c.loop-self.self in
    let n = c.forward.new.self in
    let line = c.loop-self.invariant.line in
    let steps = same_steps c.args.self.now b line in
    let within = c.requires in
    let one = moment_forward b n c.in_ok-forward.field-0 c.args.moment c.in_ok-forward.ensures.went c.in_ok-forward.ensures.all (omega arith) (omega (arith, steps, within)) in
    record {
      line = line_forward c.args.self.now b n c.in_ok-forward.field-0 line c.in_ok-forward.ensures.went c.in_ok-forward.ensures.end;
      within = omega (arith, one);
    }

pub loop-self-smaller : goal.loop-self-smaller
loop-self-smaller c =
    let b = c.loop-self.self in
    let n = c.forward.new.self in
    let line = c.loop-self.invariant.line in
    let steps = same_steps c.args.self.now b line in
    let within = c.requires in
    let one = moment_forward b n c.in_ok-forward.field-0 c.args.moment c.in_ok-forward.ensures.went c.in_ok-forward.ensures.all (omega arith) (omega (arith, steps, within)) in
    omega (arith, one)

pub returns-in_err-forward-clause-line : goal.returns-in_err-forward-clause-line
returns-in_err-forward-clause-line c =
    line_kept c.args.self.now c.loop-self.self c.forward.new.self c.loop-self.invariant.line c.in_err-forward.ensures.kept
