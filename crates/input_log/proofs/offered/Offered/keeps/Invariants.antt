use Rattle.std.proofs.Common.{◌↔◌, length}
use Rattle.input_log.specs.Offers.{AreKept, but_bells}
use Rattle.input_log.proofs.offered.Offered.keeps.Given as goal

abbrev pub invariant-loop-offer : goal.invariant-loop-offer
invariant-loop-offer l =
    AreKept (but_bells l.theirs) (but_bells l.mine) ↔ AreKept (but_bells l.fn.earlier) (but_bells l.fn.self)

abbrev pub decreases-loop-offer : goal.decreases-loop-offer
decreases-loop-offer l = length l.mine
