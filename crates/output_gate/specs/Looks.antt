-- What a gate's notes have of what its seat has seen on a board.
use Rattle.std.specs.Prelude.{◌≡◌, ℕ, ◌<◌, ◌≤◌}
use Rattle.std.specs.List.{Contains}
use Rattle.ack_core.specs.declared.board.Board.{Board}
use Rattle.ack_core.specs.declared.seats.GateSeat.{GateSeat}
use Rattle.ack_core.specs.Seats.{keepers_of, harts_of, heard, seen}
use Rattle.ft_types.specs.declared.output.Output.{Output}
use Rattle.output_gate.specs.Gates.{GateView, noted_at, holder_count}

-- no count is noted above what the seat has seen, and none of a keeper or a hart that the board lacks
pub record IsSeen (board : Board) (gate : GateView) (seat : GateSeat) : Type 0 where
  pub below : (keeper hart : ℕ) → keeper < keepers_of board → hart < harts_of board → noted_at gate keeper hart ≤ seen seat keeper hart
  pub no_keeper : (keeper hart : ℕ) → keepers_of board ≤ keeper → noted_at gate keeper hart ≡ 0
  pub no_hart : (keeper hart : ℕ) → harts_of board ≤ hart → noted_at gate keeper hart ≡ 0

-- Of one of the board's keepers the seat has heard a count of the hart above this step. What a seat has heard of a keeper is a beginning of what that
-- keeper published, by `beside` of ack_core's board.
pub record PublishedBeyond (board : Board) (seat : GateSeat) (keeper hart step : ℕ) : Type 0 where
  pub of_board : keeper < keepers_of board
  pub count : ℕ
  pub published : Contains (heard seat keeper hart) count
  pub beyond : step < count

-- enough keepers are counted, and of each keeper that is counted the seat has heard a count that has the output inside
pub record IsInside (board : Board) (gate : GateView) (seat : GateSeat) (o : Output) : Type 0 where
  pub enough : gate.need ≤ holder_count gate.noted o.hart o.step
  pub inside : (keeper : ℕ) → o.step < noted_at gate keeper o.hart → PublishedBeyond board seat keeper o.hart o.step
