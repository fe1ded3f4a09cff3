use Rattle.std.proofs.Common.{◌∙◌, [], inr, refl, sym, append-nil, arith}
use Rattle.primary_turns.proofs.Turning.{none_waits}
use Rattle.primary_turns.proofs.leadership.cut_due.Goals as goal

pub returns-else-sends-clause-cuts : goal.returns-else-sends-clause-cuts
returns-else-sends-clause-cuts c = (
  [],
  sym (append-nil c.args.deeds.now.items),
  inr (record { waits = sym c.waiting.ensures ∙ none_waits c.waiting.result c.sends.result c.sends.ensures c.if-sends.false; same = refl; added = refl }),
)

pub returns-else-sends-clause-ahead : goal.returns-else-sends-clause-ahead
returns-else-sends-clause-ahead c = ([], sym (append-nil c.args.deeds.now.items), omega arith)
