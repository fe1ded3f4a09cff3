use Rattle.ft_types.specs.declared.names.TheConstants.{HART_ROW, KEEPER_ROW}
use Rattle.output_gate.proofs.NotedRows.{none_noted, all_wide}
use Rattle.output_gate.proofs.gate.nothing_noted.Goals as goal

pub returns-clause-none : goal.returns-clause-none
returns-clause-none c = none_noted KEEPER_ROW HART_ROW

pub returns-clause-wide : goal.returns-clause-wide
returns-clause-wide c = all_wide KEEPER_ROW HART_ROW
