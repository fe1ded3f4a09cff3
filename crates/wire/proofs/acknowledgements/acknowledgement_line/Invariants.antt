use Rattle.std.proofs.Common.{◌≡◌, ◌+◌, ◌*◌, ◌≤◌, ◌∷◌, length, take, map}
use Rattle.std.specs.Prelude.{codes, decimal}
use Rattle.wire.specs.Fields.{spelling}
use Rattle.wire.proofs.acknowledgements.acknowledgement_line.Given as goal

abbrev pub invariant-loop-count : goal.invariant-loop-count
invariant-loop-count l = record {
  room : length l.text ≤ 45 + 21 * l.count-index;
  spelled : l.text ≡ spelling (codes "ack" ∷ decimal l.acknowledgement.term ∷ decimal l.acknowledgement.keeper ∷
      map decimal (take l.count-index l.acknowledgement.counts));
}
