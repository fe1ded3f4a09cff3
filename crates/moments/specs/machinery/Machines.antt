-- What machines, and snapshots of them, are in the line's words: private words.
use Rattle.guest_image.specs.Machine.{MachineState}
use Rattle.moments.specs.declared.machines.SteppedMachine.{SteppedMachine}
use Rattle.moments.specs.declared.snapshots.Snapshot.{Snapshot}
use Rattle.moments.specs.machinery.Parts.{contents_of}
use Rattle.plan_lines.specs.Line.{Standing}

abbrev pub machine_of : SteppedMachine → MachineState
machine_of m = record { harts = m.harts.items; pages = contents_of m.ram.parts.items }

abbrev pub standing_of : Snapshot → Standing
standing_of s = record { place = s.leg; moment = s.moment; machine = machine_of s.machine }
