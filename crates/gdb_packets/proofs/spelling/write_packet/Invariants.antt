use Rattle.std.proofs.Common.{◌≡◌, ◌∷◌, take}
use Rattle.std.specs.List.{flat_map}
use Rattle.gdb_packets.specs.Packets.{escape}
use Rattle.gdb_packets.proofs.spelling.write_packet.Given as goal

abbrev pub invariant-loop-byte : goal.invariant-loop-byte
invariant-loop-byte l = l.text.items ≡ 36 ∷ flat_map escape (take l.byte-index l.bytes)
