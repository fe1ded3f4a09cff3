use Rattle.std.proofs.Common.{List, ℕ, ◌∙◌, ap}
use Rattle.ft_types.specs.Counts.{count_at}
use Rattle.output_gate.specs.Gates.{fresh_line}
use Rattle.output_gate.proofs.gate.Gate.new.Goals as goal

pub returns-clause-lines : goal.returns-clause-lines
returns-clause-lines c hart = c.new_after.ensures.lines hart ∙ ap (λ (row : List ℕ). fresh_line (count_at row hart)) c.zero.ensures
