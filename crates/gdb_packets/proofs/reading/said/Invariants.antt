use Rattle.std.proofs.Common.{◌≡◌, ◌++◌, drop, false}
use Rattle.gdb_packets.specs.machinery.Unescaped.{unescaped}
use Rattle.gdb_packets.proofs.reading.said.Given as goal

abbrev pub invariant-loop-byte : goal.invariant-loop-byte
invariant-loop-byte l = l.bytes.items ++ unescaped l.is_behind (drop l.byte-index l.body) ≡ unescaped false l.body
