use Rattle.hart_replay.proofs.failovers.Positions.{legs_end_at_cuts, positions_are_cuts, positions_are_known}
use Rattle.hart_replay.proofs.laws.honest_positions.Goals as goal

pub returns-clause-legs : goal.returns-clause-legs
returns-clause-legs g c system = legs_end_at_cuts system

pub returns-clause-positions : goal.returns-clause-positions
returns-clause-positions g c system = positions_are_cuts system

pub returns-clause-known : goal.returns-clause-known
returns-clause-known g c = positions_are_known
