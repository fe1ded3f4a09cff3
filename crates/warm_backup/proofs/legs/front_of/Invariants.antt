use Rattle.std.proofs.Common.{◌≡◌, ◌-◌, take}
use Rattle.warm_backup.proofs.legs.front_of.Given as goal

abbrev pub invariant-loop-number : goal.invariant-loop-number
invariant-loop-number l = l.front.items ≡ take (l.number - 1) l.legs
