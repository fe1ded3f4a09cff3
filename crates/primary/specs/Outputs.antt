-- What a machine has put out.
use Rattle.std.specs.Prelude.{ℕ, List, [], map, drop, slice_get, slice_index, Option, Some, None}
use Rattle.std.specs.List.{enumerate_from, flat_map}
use Rattle.ft_types.specs.declared.output.Output.{Output}
use Rattle.rv32_hart.specs.Hart.{Hart}
use Rattle.guest_image.specs.Machine.{MachineState}

-- what a hart of a machine has put out: steps and words
abbrev pub said_by : Option Hart → List (ℕ × ℕ)
said_by None = []
said_by (Some h) = h.outputs

abbrev pub said_at : MachineState → ℕ → List (ℕ × ℕ)
said_at machine hart = said_by (slice_get machine.harts hart)

-- a hart's outputs, each with its number, from 0
abbrev pub numbered : ℕ → List (ℕ × ℕ) → List Output
numbered hart said = map (λ o. record { hart = hart; number = o.0; step = o.1.0; word = o.1.1 }) (enumerate_from 0 said)

-- the outputs of all harts, by hart and number
abbrev pub outputs_in : MachineState → List Output
outputs_in machine = flat_map (λ h. numbered h.0 h.1.outputs) (enumerate_from 0 machine.harts)

-- outputs of a hart, each with its number, from the first one's on
abbrev pub numbered_from : ℕ → ℕ → List (ℕ × ℕ) → List Output
numbered_from hart first said = map (λ o. record { hart = hart; number = o.0; step = o.1.0; word = o.1.1 }) (enumerate_from first said)

-- the outputs of all harts, by hart and number, but for the first ones of each that were told
abbrev pub outputs_since : List ℕ → MachineState → List Output
outputs_since told machine =
    flat_map (λ h. numbered_from h.0 (slice_index told h.0) (drop (slice_index told h.0) h.1.outputs)) (enumerate_from 0 machine.harts)
