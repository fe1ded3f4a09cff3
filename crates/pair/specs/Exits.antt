-- What a gate's thread keeps.
use Rattle.std.specs.Prelude.{◌≡◌, ◌≢◌, ◌++◌, ◌∷◌, [], ◌<◌, ◌≤◌, ℕ, List, length, slice_index}
use Rattle.std.specs.List.{AllByRecursion}
use Rattle.ft_types.specs.declared.names.TheConstants.{HART_LIMIT}
use Rattle.ack_core.specs.declared.board.Board.{Board}
use Rattle.ack_core.specs.declared.seats.GateSeat.{GateSeat}
use Rattle.ack_core.specs.Seats.{term_of, keepers_of, harts_of, heard, IsGateOf}
use Rattle.ack_core.specs.Lists.{StartsWith}
use Rattle.output_gate.specs.Gates.{GateView, with_offer, line_of, offered_of}
use Rattle.output_gate.specs.Looks.{IsSeen}
use Rattle.ft_types.specs.declared.output.Output.{Output}
use Rattle.pair.specs.declared.messages.ToGate.{ToGate}
use Rattle.pair.specs.declared.messages.ToGate.TheVariants.{Offers, Published, End}

-- of each hart, the least step that none of its offered outputs is behind
abbrev pub AreLast : GateView → List ℕ → Type 0
AreLast gate steps = (hart : ℕ) → hart < HART_LIMIT → AllByRecursion (λ o. o.step ≤ slice_index steps hart) (offered_of gate hart)
    × ((step : ℕ) → AllByRecursion (λ o. o.step ≤ step) (offered_of gate hart) → slice_index steps hart ≤ step)

-- the gate is one of the board's term and keepers, the seat is the board's, and no count is noted that it has not seen
abbrev pub IsAtBoard : Board → GateView → GateSeat → Type 0
IsAtBoard board gate seat = (term_of board ≡ gate.term) × (keepers_of board ≡ gate.keepers) × IsGateOf board seat × IsSeen board gate seat

-- what the one seat has heard of each keeper begins what the other has heard of it
abbrev pub AreLonger : Board → GateSeat → GateSeat → Type 0
AreLonger board seat later =
    (keeper hart : ℕ) → keeper < keepers_of board → hart < harts_of board → StartsWith (heard later keeper hart) (heard seat keeper hart)

-- the output is its hart's next: its number is how many were offered, and none of them has a later step
abbrev pub IsNext : GateView → Output → Type 0
IsNext gate o = (length (offered_of gate o.hart) ≡ o.number) × AllByRecursion (λ x. x.step ≤ o.step) (offered_of gate o.hart)

-- the output is behind those of its hart, and every other hart's are as they were
pub record IsOffered (old : GateView) (o : Output) (new : GateView) : Type 0 where
  pub line : line_of new o.hart ≡ with_offer (line_of old o.hart) o
  pub offered : offered_of new o.hart ≡ offered_of old o.hart ++ o ∷ []
  pub others : (hart : ℕ) → hart ≢ o.hart → line_of new hart ≡ line_of old hart

-- an output that is its hart's next is offered, and any other is left out
abbrev pub IsTakenIn : GateView → Output → GateView → Type 0
IsTakenIn old o new = (IsNext old o → IsOffered old o new) × ((IsNext old o → ⊥) → new ≡ old)

-- the gate took these outputs in, one after the other
abbrev pub AreTakenIn : GateView → List Output → GateView → Type 0
AreTakenIn old [] new = new ≡ old
AreTakenIn old (o ∷ outputs) new = (between : GateView) × IsTakenIn old o between × AreTakenIn between outputs new

-- what a gate takes in of a message: outputs, one after the other, and nothing else changes it
abbrev pub TakesIn : GateView → ToGate → GateView → Type 0
TakesIn old (Offers outputs) new = AreTakenIn old outputs.items new
TakesIn old Published new = new ≡ old
TakesIn old End new = new ≡ old
