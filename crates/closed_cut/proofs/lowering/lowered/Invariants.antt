use Rattle.std.proofs.Common.{◌≡◌, ◌<◌, ◌≤◌, ℕ, length, get_or, sum_by}
use Rattle.ft_types.specs.declared.names.TheConstants.{HART_LIMIT, HART_ROW}
use Rattle.closed_cut.specs.machinery.Lowering.{IsLoweredTo}
use Rattle.closed_cut.proofs.Lowerings.{AreStopped}
use Rattle.closed_cut.proofs.lowering.lowered.Given as goal

abbrev pub invariant-loop-hart : goal.invariant-loop-hart
invariant-loop-hart l =
    record {
      lowered : IsLoweredTo l.edges l.fn.bound l.cut;
      wide : length l.ends ≡ HART_ROW;
      ends : (h : ℕ) → get_or l.ends h 0 ≤ length l.edges;
      stopped : (h : ℕ) → h < HART_LIMIT → AreStopped l.edges l.cut h (get_or l.ends h 0) (length l.edges);
    }

abbrev pub decreases-loop-hart : goal.decreases-loop-hart
decreases-loop-hart l = sum_by (λ n. n) l.ends
