use Rattle.std.proofs.Common.{◌<◌, ℕ}
use Rattle.ft_types.specs.Counts.{count_at}
use Rattle.input_log.specs.Inputs.{HearsMore, inputs_of}
use Rattle.hart_replay.proofs.onward.hear_more.Given as goal

abbrev pub invariant-loop-number : goal.invariant-loop-number
invariant-loop-number l = (hart : ℕ) → hart < l.number → HearsMore (inputs_of l.leg.inputs hart) (count_at l.leg.ends hart) (inputs_of l.later.inputs hart)
