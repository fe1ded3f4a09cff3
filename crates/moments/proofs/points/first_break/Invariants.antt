use Rattle.std.proofs.Common.{All, take}
use Rattle.moments.specs.Points.{Breaks}
use Rattle.moments.proofs.points.first_break.Given as goal

abbrev pub invariant-loop-number : goal.invariant-loop-number
invariant-loop-number l = All (λ point. Breaks point l.pc → ⊥) (take l.number l.points)
