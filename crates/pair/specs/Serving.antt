-- What keepers' threads and the gate's thread leave.
use Rattle.std.specs.Prelude.{◌≡◌, ◌<◌, ◌≤◌, ℕ, Bool, true, false, List, Result, IfOk, Some, count_by, length, slice_get, slice_index_or}
use Rattle.std.specs.List.{Contains}
use Rattle.ft_types.specs.Counts.{count_at}
use Rattle.ft_types.specs.declared.errors.Memory.{Memory}
use Rattle.fragment_codec.specs.declared.frame.Frame.{Frame}
use Rattle.log_join.specs.Stores.{StoreView, nothing}
use Rattle.ft_types.specs.declared.position.Position.{Position}
use Rattle.closed_cut.specs.Position.{IsPosition}
use Rattle.ack_core.specs.declared.board.Board.{Board}
use Rattle.ack_core.specs.declared.seats.KeeperSeat.{KeeperSeat}
use Rattle.ack_core.specs.declared.seats.GateSeat.{GateSeat}
use Rattle.ack_core.specs.Seats.{term_of, harts_of, keepers_of, keeper_of, published, heard, IsKeeperOf}
use Rattle.ft_types.specs.declared.output.Output.{Output}
use Rattle.pair.specs.Keeping.{AreTaken}

-- The store came of frames alone, from nothing on. After some of them it had a position of this term with this count of the hart.
pub record Had (store : StoreView) (term hart count : ℕ) : Type 0 where
  pub frames : List Frame
  pub before : StoreView
  pub begun : AreTaken (nothing store.guest) frames before
  pub more : List Frame
  pub taken : AreTaken before more store
  pub position : Position
  pub is_position : IsPosition before position
  pub of_term : position.term ≡ term
  pub of_hart : count_at position.counts hart ≡ count

-- each count that the seat published is one that the store had, in the board's term
abbrev pub HadAll : Board → KeeperSeat → StoreView → Type 0
HadAll board seat store =
    (hart count : ℕ) → hart < harts_of board → Contains (published seat hart) count → Had store (term_of board) hart count

-- what keeper k's thread leaves: its seat and its store
pub record IsServed (board : Board) (k : ℕ) (s : KeeperSeat × StoreView) : Type 0 where
  pub seat : IsKeeperOf board s.0
  pub keeper : keeper_of s.0 ≡ k
  pub had : HadAll board s.0 s.1

-- what each keeper's thread leaves, in their order
abbrev pub AreServed : Board → List (Result (KeeperSeat × StoreView) Memory) → Type 0
AreServed board all =
    (length all ≡ keepers_of board) × ((k : ℕ) (other : Result (KeeperSeat × StoreView) Memory) → k < length all → IfOk (slice_index_or all k other) (IsServed board k))

-- the gate has heard of a count of keeper k above the step of the hart
pub record IsHeardBeyond (board : Board) (seat : GateSeat) (k hart step : ℕ) : Type 0 where
  pub of_board : (k < keepers_of board) × (hart < harts_of board)
  pub count : ℕ
  pub told : Contains (heard seat k hart) count
  pub beyond : step < count

-- of as many keepers as it needs
pub record IsHeard (board : Board) (seat : GateSeat) (need : ℕ) (o : Output) : Type 0 where
  pub by : List Bool  -- of each keeper, whether it is one of them
  pub enough : need ≤ count_by (λ is_one. is_one) by
  pub beyond : (k : ℕ) → slice_index_or by k false ≡ true → IsHeardBeyond board seat k o.hart o.step

-- each count that the gate has heard of keeper k is one that store k had
abbrev pub AreHad : Board → GateSeat → List StoreView → Type 0
AreHad board seat stores =
    (k : ℕ) (other : StoreView) → k < length stores → (hart count : ℕ) → hart < harts_of board → Contains (heard seat k hart) count →
    Had (slice_index_or stores k other) (term_of board) hart count

-- store k had a position of this term with the step of the hart inside
pub record HadInside (stores : List StoreView) (k term hart step : ℕ) : Type 0 where
  pub store : StoreView
  pub there : slice_get stores k ≡ Some store
  pub count : ℕ
  pub had : Had store term hart count
  pub inside : step < count

-- as many keepers as are needed had, on the way to the stores that they end with, a position with the output inside
pub record IsHeldOnTheWay (stores : List StoreView) (term need : ℕ) (o : Output) : Type 0 where
  pub by : List Bool  -- of each keeper, whether it is one of them
  pub enough : need ≤ count_by (λ is_one. is_one) by
  pub inside : (k : ℕ) → slice_index_or by k false ≡ true → HadInside stores k term o.hart o.step
