use Rattle.std.proofs.Common.{All, take}
use Rattle.moments.specs.Points.{Watches}
use Rattle.moments.proofs.points.first_watch.Given as goal

abbrev pub invariant-loop-number : goal.invariant-loop-number
invariant-loop-number l = All (λ point. Watches point l.access → ⊥) (take l.number l.points)
