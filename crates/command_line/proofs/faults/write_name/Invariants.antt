use Rattle.std.proofs.Common.{drop}
use Rattle.guest_image.proofs.TextFacts.{LeftOf}
use Rattle.command_line.specs.Faults.{in_one_line}
use Rattle.command_line.proofs.faults.write_name.Given as goal

abbrev pub invariant-loop-byte : goal.invariant-loop-byte
invariant-loop-byte g l = LeftOf g.W.Sink.bytes g.W.Sink.failures l.fn.out l.out (in_one_line l.name) (in_one_line (drop l.byte-index l.name))
