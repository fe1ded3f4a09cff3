-- What a keeper does with frames.
use Rattle.std.specs.Prelude.{◌≡◌, ◌⊎◌, List, [], ◌∷◌}
use Rattle.fragment_codec.specs.declared.frame.Frame.{Frame}
use Rattle.log_join.specs.Stores.{StoreView, IsJoin, alone}
use Rattle.log_join.specs.Answers.{answer_to}
use Rattle.log_join.specs.declared.answers.Put.TheVariants.{OtherGuest}
use Rattle.ft_types.specs.declared.position.Position.{Position}
use Rattle.closed_cut.specs.Position.{IsPosition}
use Rattle.ack_core.specs.declared.board.Board.{Board}
use Rattle.ack_core.specs.declared.board.AckFault.{AckFault}
use Rattle.ack_core.specs.declared.seats.KeeperSeat.{KeeperSeat}
use Rattle.ack_core.specs.Seats.{Refuses, Publishes}

-- the store took the frame, or left it as one of another guest
abbrev pub IsTaken : StoreView → Frame → StoreView → Type 0
IsTaken old frame new = IsJoin old (alone frame) new ⊎ ((answer_to old frame ≡ OtherGuest) × (new ≡ old))

-- the store took these frames, one after the other
abbrev pub AreTaken : StoreView → List Frame → StoreView → Type 0
AreTaken old [] new = new ≡ old
AreTaken old (frame ∷ frames) new = (between : StoreView) × IsTaken old frame between × AreTaken between frames new

-- the seat published the store's position, or that was refused and it published nothing
abbrev pub Tells : Board → KeeperSeat → StoreView → KeeperSeat → Type 0
Tells board old store new =
    (p : Position) × IsPosition store p × (Publishes board old p new ⊎ ((e : AckFault) × Refuses board old p e × (new ≡ old)))
