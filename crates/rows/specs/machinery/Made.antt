-- What tests of boards and gates begin with.
use Rattle.std.specs.Prelude.{◌≡◌, ℕ, ◌<◌, List, length, slice_index_or}
use Rattle.ack_core.specs.declared.board.Board.{Board}
use Rattle.ack_core.specs.declared.seats.KeeperSeat.{KeeperSeat}
use Rattle.ack_core.specs.Seats.{term_of, harts_of, keepers_of, IsKeeperOf}
use Rattle.term_gate.specs.TermGates.{TermGateView}

-- each is a seat of one of the board's keepers
abbrev pub AreKeepersOf : Board → List KeeperSeat → Type 0
AreKeepersOf board seats = (k : ℕ) (other : KeeperSeat) → k < length seats → IsKeeperOf board (slice_index_or seats k other)

-- of term 1, two harts and two keepers
abbrev pub IsOfTwo : Board → Type 0
IsOfTwo board = (term_of board ≡ 1) × (harts_of board ≡ 2) × (keepers_of board ≡ 2)

-- of two harts and three keepers
abbrev pub IsOfThree : TermGateView → Type 0
IsOfThree g = (g.harts ≡ 2) × (g.gate.keepers ≡ 3)
