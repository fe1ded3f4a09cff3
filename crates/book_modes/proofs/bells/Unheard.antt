-- Bells that nobody heard were rung.
use Rattle.std.proofs.Common.{◌≡◌, ℕ, zero, suc, ◌+◌, add-one, ap, ◌<◌, ◌≤◌, ◌++◌, length, replicate, slice_get, All, Option, None, Some, arith}
use Rattle.std.proofs.lemmas.List.Elements.{All-cons, All-append}
use Rattle.rv32_hart.specs.Hart.{Hart}
use Rattle.guest_image.specs.Machine.{MachineState}
use Rattle.hart_lease.specs.Runs.{counts_of}
use Rattle.book_modes.specs.Recordings.{IsRung}
use Rattle.book_modes.specs.Silences.{many_unheard, bell_from, unheard_from, unheard_of, unheard_bells}

rung_many : (m : MachineState) (source many : ℕ) → source < length m.harts → All (IsRung m) (replicate many (bell_from source (counts_of m source)))
rung_many m source zero lt = λ k d below. absurd (omega arith)
rung_many m source (suc many) lt =
    All-cons (IsRung m) (bell_from source (counts_of m source)) (replicate many (bell_from source (counts_of m source)))
    (record { source = lt; settled = omega arith }) (rung_many m source many lt)

rung_from : (m : MachineState) (target sources : ℕ) → sources ≤ length m.harts → All (IsRung m) (unheard_from m target sources)
rung_from m target zero le = λ k d below. absurd (omega arith)
rung_from m target (suc source) le =
    All-append (IsRung m) (unheard_from m target source) (replicate (many_unheard m source target) (bell_from source (counts_of m source)))
    (rung_from m target source (omega (arith, le))) (rung_many m source (many_unheard m source target) (omega (arith, le)))

pub unheard_rung : (m : MachineState) (target : ℕ) → All (IsRung m) (unheard_bells m target)
unheard_rung m target = of (slice_get m.harts target)
  where
    of : (o : Option Hart) → All (IsRung m) (unheard_of o (unheard_from m target (length m.harts)))
    of None = λ k d below. absurd (omega arith)
    of (Some h) = rung_from m target (length m.harts) (omega arith)

-- the bells of one source more
pub one_more_source : (m : MachineState) (target n source after many : ℕ) → source ≡ n → many ≡ many_unheard m source target → after ≡ counts_of m source →
    unheard_from m target n ++ replicate many (bell_from source after) ≡ unheard_from m target (n + 1)
one_more_source m target n source after many at is counted =
    rw (add-one, is, counted) (ap (λ s. unheard_from m target n ++ replicate (many_unheard m s target) (bell_from s (counts_of m s))) at)
