use Rattle.std.proofs.Common.{ap}
use Rattle.debugging.specs.declared.commands.Command.TheVariants as command
use Rattle.debugging.specs.declared.commands.Note.TheVariants as note
use Rattle.debugging.specs.declared.numbers.Thread.{Thread}
use Rattle.debugging.proofs.commands.read_there.Goals as goal

pub returns : goal.returns
returns c = λ t is. ap (λ (x : Thread). command.Note (note.IsThere x)) (c.read_thread.ensures t is)
