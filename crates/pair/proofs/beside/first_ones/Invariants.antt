use Rattle.std.proofs.Common.{◌≡◌, length, take}
use Rattle.ft_types.specs.declared.names.TheConstants.{HART_ROW}
use Rattle.pair.proofs.GoneOut.{AreFirst}
use Rattle.pair.proofs.beside.first_ones.Given as goal

abbrev pub invariant-loop-output : goal.invariant-loop-output
invariant-loop-output l = record {
  row : length l.many ≡ HART_ROW;
  first : AreFirst (take l.output-index l.released) l.many;
}
