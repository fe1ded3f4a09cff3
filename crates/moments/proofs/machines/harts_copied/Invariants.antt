use Rattle.std.proofs.Common.{◌≡◌, take}
use Rattle.moments.proofs.machines.harts_copied.Given as goal

abbrev pub invariant-loop-hart : goal.invariant-loop-hart
invariant-loop-hart l = l.copies.items ≡ take l.hart-index l.harts
