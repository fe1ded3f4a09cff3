use Rattle.std.proofs.Common.{◌≡◌, take}
use Rattle.input_log.proofs.log.InputLog.same.Given as goal

abbrev pub invariant-loop-hart : goal.invariant-loop-hart
invariant-loop-hart l = take l.hart l.self ≡ take l.hart l.other
