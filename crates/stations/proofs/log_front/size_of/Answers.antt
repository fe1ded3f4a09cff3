use Rattle.std.proofs.Common.{◌≤◌, ◌+◌, length, drop, arith}
use Rattle.stations.proofs.Fronts.{step_at, step_over, at_end}
use Rattle.stations.proofs.log_front.size_of.Goals as goal

pub split_at-requires : goal.split_at-requires
split_at-requires c = (c.loop-frame.invariant c.requires.0 c.requires.1).0

pub loop-frame-preserved : goal.loop-frame-preserved
loop-frame-preserved c = λ last s.
    let at = c.loop-frame in
    let now = at.invariant last s in
    step_over c.args.bytes.now c.split_at.result.1.now last (drop (at._frame-index + 1) c.args.frames.now) at.size c.frame_size-size.result now.0
    c.split_at.ensures.back c.frame_size-size.ensures
    (step_at c.args.bytes.now last c.args.frames.now at.size at._frame-index c._frame-item.result c.loop-frame-test.true c._frame-item.is now.1)

pub frame_size-size-requires : goal.frame_size-size-requires
frame_size-size-requires c =
    let at = c.loop-frame in
    let now = at.invariant c.requires.0 c.requires.1 in
    let step = step_at c.args.bytes.now c.requires.0 c.args.frames.now at.size at._frame-index c._frame-item.result c.loop-frame-test.true c._frame-item.is
    now.1 in
    rw c.split_at.ensures.back step.len

pub overflow_add-size : goal.overflow_add-size
overflow_add-size c =
    let at = c.loop-frame in
    let now = at.invariant c.requires.0 c.requires.1 in
    let over = step_over c.args.bytes.now c.split_at.result.1.now c.requires.0 (drop (at._frame-index + 1) c.args.frames.now) at.size c.frame_size-size.result
    now.0 c.split_at.ensures.back c.frame_size-size.ensures
    (step_at c.args.bytes.now c.requires.0 c.args.frames.now at.size at._frame-index c._frame-item.result c.loop-frame-test.true c._frame-item.is now.1) in
    let within : at.size + c.frame_size-size.result ≤ length c.args.bytes.now = over.0 in
    omega (arith, within)

pub returns : goal.returns
returns c = λ rest s.
    let now = c.loop-frame.invariant rest s in
    (now.0, at_end c.args.bytes.now rest c.args.frames.now c.loop-frame.size c.loop-frame._frame-index c.loop-frame-test.false now.1)
