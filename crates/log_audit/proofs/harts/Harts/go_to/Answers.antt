use Rattle.hart_lease.specs.Runs.{counts_of}
use Rattle.log_audit.specs.machinery.Covered.{machine_of}
use Rattle.log_audit.proofs.Covering.{marks_below}
use Rattle.log_audit.proofs.Turning.{quiet_clashed, quiet_nearer, quiet_gone}
use Rattle.log_audit.proofs.harts.Harts.go_to.Goals as goal

pub step-requires-clause-marks : goal.step-requires-clause-marks
step-requires-clause-marks c = λ h found.
    let on = c.loop-state.invariant.on in
    marks_below c.args.leg.now on.0 (counts_of (machine_of c.loop-state.self)) c.loop-state.self on.1 c.args.hart h found

pub returns-in-Some-clause-clash : goal.returns-in-Some-clause-clash
returns-in-Some-clause-clash c =
    quiet_clashed c.args.leg.now c.args.self.now _ c.loop-state.self c.self.view_is c.loop-state.invariant.start c.args.hart c.requires.hart c.index.result
    c.index.ensures.value c.index-state.result.now c.index-state.ensures c.count.result c.count.ensures.value c.args.stop c.if-stop-count.false
    c.requires.on c.loop-state.invariant.on c.loop-state.invariant.quiet c.args.before.now c.loop-state.invariant.force
    _ c.in-Some.clash c.in-Some.is c.in_ok-clash.ensures.clash

pub loop-state-smaller : goal.loop-state-smaller
loop-state-smaller c =
    quiet_nearer c.args.leg.now c.args.self.now _ c.loop-state.self c.self.view_is c.loop-state.invariant.start c.args.hart c.requires.hart c.index.result
    c.index.ensures.value c.index-state.result.now c.index-state.ensures c.count.result c.count.ensures.value c.args.stop c.if-stop-count.false
    c.requires.on c.loop-state.invariant.on c.loop-state.invariant.quiet c.args.before.now c.loop-state.invariant.force
    _ c.step.new.self c.in_default.is c.in_ok-clash.ensures.taken

pub loop-state-preserved : goal.loop-state-preserved
loop-state-preserved c =
    let along = quiet_gone c.args.leg.now c.args.self.now _ c.loop-state.self c.self.view_is c.loop-state.invariant.start c.args.hart c.requires.hart c.index.result
    c.index.ensures.value c.index-state.result.now c.index-state.ensures c.count.result c.count.ensures.value c.args.stop c.if-stop-count.false
    c.requires.on c.loop-state.invariant.on c.loop-state.invariant.quiet c.args.before.now c.loop-state.invariant.force
    _ c.step.new.self c.in_default.is c.in_ok-clash.ensures.taken c.requires.leg c.self.invariant.few c.loop-state.invariant.left in
    record {
      start = along.start;
      on = along.on;
      force = along.force;
      quiet = along.quiet;
      left = along.left;
    }
