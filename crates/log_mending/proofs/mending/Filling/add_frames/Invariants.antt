use Rattle.std.proofs.Common.{◌≡◌, ◌++◌, ℕ, List}
use Rattle.std.specs.Vec.Iter.{into_iter_items}
use Rattle.ft_types.specs.Guests.{GuestParts}
use Rattle.fragment_codec.specs.declared.frame.Frame.{Frame}
use Rattle.log_mending.specs.Mending.{IsFilled}
use Rattle.log_mending.proofs.mending.Filling.add_frames.Given as goal

abbrev pub invariant-loop-frame : goal.invariant-loop-frame
invariant-loop-frame l =
    ((guest : GuestParts) (front : List ℕ) (own given : List Frame) → IsFilled guest front own given l.fn.self.fresh.items l.fn.self.store →
    IsFilled guest front own (given ++ l.yielded) l.self.fresh.items l.self.store) ×
    (l.yielded ++ into_iter_items l.frame-iterator ≡ into_iter_items l.initial.frame-iterator)
