use Rattle.std.proofs.Common.{refl, arith}
use Rattle.rv32_hart.proofs.NoBells.{none_counted, none_rung, none_rung_in_all}
use Rattle.rv32_hart.proofs.state.HartState.boot.Goals as goal

pub invariant_of-result : goal.invariant_of-result
invariant_of-result c =
    rw c.no_bells-2.ensures
    (
    record {
      place = c.requires.place;
      limit = c.requires.limit;
      words = refl;
      zero = refl;
      pc_aligned = refl;
      mtvec_aligned = refl;
      mepc_aligned = refl;
      once_a_step = none_rung;
      all = none_rung_in_all;
      one_a_step = omega arith;
    }
    )

pub invariant_of-result-2 : goal.invariant_of-result-2
invariant_of-result-2 c = rw (c.no_bells.ensures, c.no_bells-2.ensures) none_counted
