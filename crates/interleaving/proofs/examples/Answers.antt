use Rattle.interleaving.proofs.HonestExample.{ends_alike}
use Rattle.interleaving.proofs.BrokenExamples.{parts_of_honesty, start_matters, hand_overs_lose_order}
use Rattle.interleaving.proofs.examples.Goals as goal

pub returns-clause-ends_alike : goal.returns-clause-ends_alike
returns-clause-ends_alike g c = ends_alike

pub returns-clause-parts_of_honesty : goal.returns-clause-parts_of_honesty
returns-clause-parts_of_honesty g c = λ system. parts_of_honesty system

pub returns-clause-start_matters : goal.returns-clause-start_matters
returns-clause-start_matters g c = start_matters

pub returns-clause-hand_overs_lose_order : goal.returns-clause-hand_overs_lose_order
returns-clause-hand_overs_lose_order g c = hand_overs_lose_order
