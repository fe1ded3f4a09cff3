use Rattle.log_audit.proofs.Stops.{stop_quiet}
use Rattle.moments.proofs.next.stop_of.Goals as goal

pub returns : goal.returns
returns c =
    rw (c.min-2.ensures, c.min.ensures, c.unwrap_or-edge.ensures, c.unwrap_or-input.ensures)
    (stop_quiet c.args.leg.now c.args.hart _ c.count_of-end.result c.next.result c.next-2.result c.next.ensures.rules c.count_of-end.ensures.value
    c.next.ensures.first c.next.ensures.none c.next-2.ensures.first c.next-2.ensures.none)
