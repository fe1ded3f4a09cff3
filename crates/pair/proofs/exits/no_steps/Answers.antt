use Rattle.std.proofs.Common.{arith}
use Rattle.std.proofs.lemmas.List.{get_or-replicate}
use Rattle.ft_types.specs.declared.names.TheConstants.{HART_ROW}
use Rattle.pair.proofs.exits.no_steps.Goals as goal

pub returns : goal.returns
returns c = λ hart below. get_or-replicate HART_ROW hart 0 0 (omega (arith, below))
