use Rattle.std.proofs.Common.{arith, refl}
use Rattle.moments.proofs.Stopping.{line_kept}
use Rattle.plan_lines.proofs.Rises.{fewer_first, count_there}
use Rattle.moments.proofs.Coming.{comes_next}
use Rattle.moments.proofs.timeline.Timeline.go_to_count.Goals as goal

pub returns-then-end_of-count-clause-none : goal.returns-then-end_of-count-clause-none
returns-then-end_of-count-clause-none c stays = (
  refl,
  λ moment m at.
      let most = c.end_of.ensures.most moment m at in
      omega (arith, most),
)

pub loop-hart-init : goal.loop-hart-init
loop-hart-init c =
    record {
      line = c.near_count.ensures.line;
      leads = c.stands_there.ensures.leads;
      fewer = fewer_first c.near_count.new.self c.args.hart c.args.count c.stands_there.ensures.leads c.in_ok-near_count.ensures.below;
      none = λ first. c.in_ok-near_count.ensures.most;
    }

pub loop-hart-preserved : goal.loop-hart-preserved
loop-hart-preserved c =
    (comes_next c.args.self.now c.loop-hart.self c.forward.new.self c.args.hart c.args.count c.end_of.result c.loop-hart.invariant c.end_of.ensures.all
    (omega arith) (omega arith) c.in_ok-forward.field-0 c.in_ok-forward.ensures.went c.in_ok-forward.ensures.all c.in_ok-forward.ensures.room
    c.stands_there-in-loop-hart.ensures.leads).coming

pub loop-hart-smaller : goal.loop-hart-smaller
loop-hart-smaller c =
    (comes_next c.args.self.now c.loop-hart.self c.forward.new.self c.args.hart c.args.count c.end_of.result c.loop-hart.invariant c.end_of.ensures.all
    (omega arith) (omega arith) c.in_ok-forward.field-0 c.in_ok-forward.ensures.went c.in_ok-forward.ensures.all c.in_ok-forward.ensures.room
    c.stands_there-in-loop-hart.ensures.leads).nearer

pub returns-in_err-forward-clause-line : goal.returns-in_err-forward-clause-line
returns-in_err-forward-clause-line c =
    line_kept c.args.self.now c.loop-hart.self c.forward.new.self c.loop-hart.invariant.line c.in_err-forward.ensures.kept

pub returns-clause-there : goal.returns-clause-there
returns-clause-there c went =
    count_there c.loop-hart.self c.args.hart c.args.count c.loop-hart.invariant.leads c.loop-hart.invariant.fewer c.loop-hart.invariant.none (omega arith)

pub returns-clause-first : goal.returns-clause-first
returns-clause-first c went = c.loop-hart.invariant.fewer
