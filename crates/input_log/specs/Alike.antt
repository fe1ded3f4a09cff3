-- When two inputs are equal.
use Rattle.std.specs.Prelude.{Bool, true, false, ◌==◌}
use Rattle.input_log.specs.declared.Input.{Input}
use Rattle.input_log.specs.declared.Input.TheVariants.{Timer, Word, Bell}

abbrev pub same_input : Input → Input → Bool
same_input Timer Timer = true
same_input (Word a) (Word b) = a == b
same_input (Bell a) (Bell b) = a == b
same_input a b = false
