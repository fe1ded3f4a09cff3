use Rattle.std.proofs.Common.{List, None, Some, sym, subst}
use Rattle.leading.specs.declared.handed.HandedLog.{HandedLog}
use Rattle.live_primary.proofs.OnePair.{SoFar, none_so_far, one_more}
use Rattle.live_primary.proofs.outset.handed_logs.Goals as goal

pub loop-number-init : goal.loop-number-init
loop-number-init g c = subst (λ (logs : List HandedLog). SoFar c.args.guest c.args.quorum None logs) (sym c.new-logs.ensures.items)
    (none_so_far c.args.guest c.args.quorum)

pub loop-number-preserved : goal.loop-number-preserved
loop-number-preserved g c =
    let guest = c.args.guest in
    let own = c.in_ok-own.own in
    let more = one_more guest c.args.quorum c.loop-number.pair c.loop-number.logs.items own c.in_ok-log_in.field-0 c.loop-number.invariant
    c.in_ok-own.ensures.quorum c.in_ok-own.ensures.same
    (c.deref.result.now, c.in_ok-own.rest.now, c.in_ok-own.ensures.own, c.in_ok-log_in.ensures) in
    subst (λ (logs : List HandedLog). SoFar guest c.args.quorum (Some own) logs) (sym c.in_ok-push.ensures.items) more
