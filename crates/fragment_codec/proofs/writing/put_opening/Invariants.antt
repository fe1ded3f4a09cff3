use Rattle.std.proofs.Common.{◌≡◌, ◌≤◌, ◌+◌, ◌*◌, length, take}
use Rattle.std.specs.Int.{w64}
use Rattle.std.specs.List.{flat_map}
use Rattle.fragment_codec.specs.Spelling.{number}
use Rattle.fragment_codec.proofs.bytes.Texts.{opening_front}
use Rattle.fragment_codec.proofs.writing.put_opening.Given as goal

abbrev pub invariant-loop-count : goal.invariant-loop-count
invariant-loop-count l = record {
  text : l.out.items ≡ opening_front l.opening (flat_map (number w64) (take l.count-index l.count-items));
  len : length l.out.items ≤ 41 + 8 * l.count-index;
}
