-- The fault by which a client ends.
use Rattle.std.specs.Prelude.{Option, None, Some}
use Rattle.ends.specs.declared.faults.Fault.{Fault}
use Rattle.ends.specs.declared.faults.Fault.TheVariants.{Contradiction as HasContradiction, Full as IsFull, Unanswered as LacksAnswer}
use Rattle.client_turns.specs.declared.deeds.ClientEnd.{ClientEnd}
use Rattle.client_turns.specs.declared.deeds.ClientEnd.TheVariants.{Done, Contradiction, Full, Unanswered}

abbrev pub told_of_end : ClientEnd → Option Fault
told_of_end Done = None
told_of_end Contradiction = Some HasContradiction
told_of_end Full = Some IsFull
told_of_end (Unanswered number) = Some (LacksAnswer number)
