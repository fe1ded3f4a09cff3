use Rattle.std.proofs.Common.{◌≡◌, ◌++◌, take, map}
use Rattle.client_turns.specs.declared.deeds.ClientDeed.TheVariants.{Ask}
use Rattle.client_turns.proofs.talking.ask_again.Given as goal

abbrev pub invariant-loop-request : goal.invariant-loop-request
invariant-loop-request l = l.deeds.items ≡ l.fn.deeds.items ++ map Ask (take l.request-index l.request-items)
