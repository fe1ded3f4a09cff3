use Rattle.std.proofs.Common.{map}
use Rattle.live_primary.proofs.Renewing.{SoFarGiven}
use Rattle.live_primary.proofs.renewal.read_renewal.Given as goal

abbrev pub invariant-loop-number : goal.invariant-loop-number
invariant-loop-number g l = SoFarGiven l.guest l.keeper l.term l.pair l.givers (map (λ log. log.items) l.logs.items)
