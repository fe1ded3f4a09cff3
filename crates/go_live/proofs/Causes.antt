-- Faults of a replay, as faults of going live.
use Rattle.std.proofs.Common.{◌≡◌, ◌≢◌}
use Rattle.hart_replay.specs.declared.fault.ReplayFault.{ReplayFault}
use Rattle.hart_replay.specs.declared.fault.ReplayFault.TheVariants.{Cyclic, HaltedInside, OtherGuest, Memory as NoMemory}
use Rattle.go_live.specs.declared.fault.LiveFault.TheVariants.{TermNotNew}
use Rattle.go_live.specs.Faults.{live_fault_of, IfReplay}

pub never_old : (fault : ReplayFault) → live_fault_of fault ≡ TermNotNew → ⊥
never_old (Cyclic counts) e = cc
never_old (HaltedInside hart count) e = cc
never_old OtherGuest e = cc
never_old NoMemory e = cc

pub replay_told : (P : ReplayFault → Type 0) (fault : ReplayFault) → (fault ≢ NoMemory → P fault) → IfReplay (live_fault_of fault) P
replay_told P (Cyclic counts) p = p (λ e. cc)
replay_told P (HaltedInside hart count) p = p (λ e. cc)
replay_told P OtherGuest p = p (λ e. cc)
replay_told P NoMemory p = tt
