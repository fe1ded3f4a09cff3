use Rattle.std.proofs.Common.{ℕ, List, [], map, take}
use Rattle.ft_types.specs.Guests.{GuestParts}
use Rattle.fragment_codec.specs.declared.frame.Frame.{Frame}
use Rattle.log_mending.specs.Mending.{AreFronts, IsFilled}
use Rattle.log_mending.proofs.mending.Filling.add_logs.Given as goal

abbrev pub invariant-loop-number : goal.invariant-loop-number
invariant-loop-number l =
    (guest : GuestParts) (front : List ℕ) (own : List Frame) → IsFilled guest front own [] l.fn.self.fresh.items l.fn.self.store →
    (given : List Frame) × AreFronts (take l.number (map (λ log. log.items) l.others)) given × IsFilled guest front own given l.self.fresh.items l.self.store
