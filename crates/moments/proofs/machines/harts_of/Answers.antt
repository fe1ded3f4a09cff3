use Rattle.std.proofs.Common.{rules, sym, ap, ◌∙◌, ◌++◌, ◌∷◌, []}
use Rattle.log_audit.proofs.Lists.{take_more}
use Rattle.moments.proofs.machines.harts_of.Goals as goal

pub loop-number-preserved : goal.loop-number-preserved
loop-number-preserved c =
    c.in_ok-push.ensures.items
    ∙ ap (λ l. l ++ c.in_ok-copy.field-0 ∷ []) c.loop-number.invariant
    ∙ sym (take_more _ c.loop-number.number c.in_ok-copy.field-0 (search rules))
