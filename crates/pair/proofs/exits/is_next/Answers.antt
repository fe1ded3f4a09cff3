use Rattle.std.proofs.Common.{sym, ◌∙◌}
use Rattle.pair.proofs.Offered.{next_told}
use Rattle.pair.proofs.exits.is_next.Goals as goal

pub returns-then-offered-output : goal.returns-then-offered-output
returns-then-offered-output c =
    next_told c.args.gate.now c.args.last.now c.args.output.now c.index.result c.index.ensures.value c.index.ensures.below c.requires
    (sym c.offered.ensures.number ∙ c.if-offered-output.true)
