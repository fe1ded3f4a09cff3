use Rattle.std.proofs.Common.{◌≡◌, take}
use Rattle.plan_lines.specs.machinery.Pending.{mip_after}
use Rattle.moments.proofs.access.pending.Given as goal

abbrev pub invariant-loop-input : goal.invariant-loop-input
invariant-loop-input l = l.pending ≡ mip_after (take l.input-index l.inputs) l.fn.mip
