-- Outputs that are told.
use Rattle.std.specs.Prelude.{◌≡◌, ◌==◌, ◌&&◌, ◌++◌, ◌≤◌, ℕ, Bool, List, drop, filter, map, nat_le, slice_get, take, Some}
use Rattle.guest_image.specs.Machine.{MachineState}
use Rattle.ft_types.specs.declared.output.Output.{Output}
use Rattle.output_gate.specs.Gates.{GateView, holder_count}
use Rattle.primary.specs.Outputs.{numbered_from, said_at}
use Rattle.primary.specs.declared.released.Released.{Released}
use Rattle.wire.specs.declared.answers.Answer.{Answer}

-- outputs, as they are told in a term
abbrev pub told_in : ℕ → List Output → List Answer
told_in term outputs = map (λ o. record { term = term; output = o }) outputs

-- an output of the hart, from this number on
abbrev pub is_from : ℕ → ℕ → Output → Bool
is_from hart number o = (o.hart == hart) && nat_le number o.number

-- the outputs of a hart, from this number on, that are known to be out: those below the mark, of which a note tells that an older term let
-- them go, and those that went out
abbrev pub told_again : ℕ → MachineState → ℕ → List Released → ℕ → ℕ → List Answer
told_again term machine mark released hart number =
    told_in term (numbered_from hart number (drop number (take mark (said_at machine hart)))) ++
    told_in term (filter (is_from hart number) (map (λ r. r.output) released))

-- the output is the machine's at its number, and as many keepers as it needs, each counted once, are noted above its step
pub record IsOut (machine : MachineState) (g : GateView) (o : Output) : Type 0 where
  pub own : slice_get (said_at machine o.hart) o.number ≡ Some (o.step, o.word)
  pub held : g.need ≤ holder_count g.noted o.hart o.step
