use Rattle.std.proofs.Common.{◌∙◌, ap, bit_or, arith}
use Rattle.log_audit.proofs.Lists.{get_at}
use Rattle.plan_lines.proofs.Interrupts.{mip_next}
use Rattle.moments.proofs.access.pending.Goals as goal

pub loop-input-preserved : goal.loop-input-preserved
loop-input-preserved c =
    ap (bit_or c.loop-input.pending) c.bit_of-pending.ensures
    ∙ mip_next c.args.inputs.now c.loop-input.input-index c.args.mip c.loop-input.pending c.input-item.result
    (get_at c.args.inputs.now c.loop-input.input-index c.input-item.result c.input-item.is (omega arith)) c.loop-input.invariant
