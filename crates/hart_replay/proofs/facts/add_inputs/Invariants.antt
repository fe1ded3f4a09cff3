use Rattle.std.proofs.Common.{◌≤◌, All, take, drop, max}
use Rattle.fragment_codec.specs.Rules.{count_of}
use Rattle.hart_replay.specs.Facts.{inputs_among}
use Rattle.hart_replay.specs.machinery.Taking.{between, TakesInputs, InputsEndBelow}
use Rattle.hart_replay.proofs.gathering.Inputs.{InputsEndBy}
use Rattle.hart_replay.proofs.facts.add_inputs.Given as goal

abbrev pub invariant-loop-record : goal.invariant-loop-record
invariant-loop-record l =
    let hart = l.piece.key.hart in
    record {
      taken : TakesInputs hart l.initial.inputs (inputs_among (between l.from l.end (take l.record-index l.piece.records))) l.inputs;
      ahead : All (λ fact. l.from ≤ count_of fact → InputsEndBy l.inputs hart (count_of fact)) (drop l.record-index l.piece.records);
      last : InputsEndBelow l.inputs hart (max l.from l.piece.to);
    }
