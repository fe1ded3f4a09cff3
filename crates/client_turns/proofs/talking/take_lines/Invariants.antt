use Rattle.std.proofs.Common.{drop}
use Rattle.client_turns.proofs.Steps.{HasTaken}
use Rattle.client_turns.proofs.talking.take_lines.Given as goal

abbrev pub invariant-loop-line : goal.invariant-loop-line
invariant-loop-line l = HasTaken l.fn.talk l.talk l.fn.deeds.items l.deeds.items l.lines (drop l.line-index l.lines)
