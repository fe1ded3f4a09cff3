-- Stores that keepers gave to a term.
use Rattle.std.specs.Prelude.{ℕ, ◌≡◌, List, All}
use Rattle.hart_replay.specs.declared.fault.ReplayFault.{ReplayFault}
use Rattle.go_live.specs.Faults.{IfReplay as IfReplayOf}
use Rattle.fenced_live.specs.declared.given.Given.{Given}
use Rattle.fenced_live.specs.declared.fault.GivenFault.{GivenFault}
use Rattle.fenced_live.specs.declared.fault.GivenFault.TheVariants.{OtherTerm, Live}

-- each store was given to this term
abbrev pub AreTo : List Given → ℕ → Type 0
AreTo given term = All (λ g. g.term ≡ term) given

-- the fault is of a replay
abbrev pub IfReplay : GivenFault → (ReplayFault → Type 0) → Type 0
IfReplay OtherTerm P = Unit {0}
IfReplay (Live fault) P = IfReplayOf fault P
