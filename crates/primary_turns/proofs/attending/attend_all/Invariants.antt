use Rattle.std.proofs.Common.{◌≡◌, ◌++◌, map, take}
use Rattle.primary_turns.specs.declared.deeds.Deed.TheVariants.{Attend}
use Rattle.primary_turns.proofs.attending.attend_all.Given as goal

abbrev pub invariant-loop-finding : goal.invariant-loop-finding
invariant-loop-finding l = l.deeds.items ≡ l.fn.deeds.items ++ take l.finding-index (map Attend l.findings)
