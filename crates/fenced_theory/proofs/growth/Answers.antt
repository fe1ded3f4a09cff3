use Rattle.fenced_theory.proofs.Walks.{growth}
use Rattle.fenced_theory.proofs.growth.Goals as goal

pub returns : goal.returns
returns g c = λ recorder. growth recorder
