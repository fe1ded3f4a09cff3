use Rattle.std.proofs.Common.{◌≡◌, ◌≤◌, length}
use Rattle.input_log.specs.Offers.{but_bells}
use Rattle.input_log.proofs.offered.Offered.next.Given as goal

abbrev pub invariant-loop-offer : goal.invariant-loop-offer
invariant-loop-offer l =
    record {
      same : but_bells l.fn.self ≡ but_bells l.self;
      fewer : length l.self ≤ length l.fn.self;
    }

abbrev pub decreases-loop-offer : goal.decreases-loop-offer
decreases-loop-offer l = length l.self
