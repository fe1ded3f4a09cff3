-- What the contracts say of a board and its seats.
use Rattle.std.specs.Prelude.{◌≡◌, ◌≢◌, ℕ, ◌+◌, ◌*◌, ◌<◌, ◌≤◌, List, [], ◌∷◌, ◌++◌, replicate, slice_index}
use Rattle.ack_core.specs.declared.board.Board.{Board}
use Rattle.ft_types.specs.declared.position.Position.{Position}
use Rattle.ack_core.specs.declared.board.AckFault.{AckFault}
use Rattle.ack_core.specs.declared.board.AckFault.TheVariants.{OtherTerm, Lower}
use Rattle.ack_core.specs.declared.seats.KeeperSeat.{KeeperSeat}
use Rattle.ack_core.specs.declared.seats.GateSeat.{GateSeat}
use Rattle.ack_core.specs.Lists.{last_count}
use Rattle.ack_core.specs.Rule.{known_at}

-- the term of a board
abbrev pub term_of : Board → ℕ
term_of b = b.term

-- how many harts a board has counts of
abbrev pub harts_of : Board → ℕ
harts_of b = b.harts

-- how many keepers a board has
abbrev pub keepers_of : Board → ℕ
keepers_of b = b.keepers

-- the keeper whose seat it is
abbrev pub keeper_of : KeeperSeat → ℕ
keeper_of s = s.keeper

-- the list of counts that the keeper published for the hart h
abbrev pub published : KeeperSeat → ℕ → List ℕ
published s h = known_at s.seat.me.0 (s.keeper * s.harts + h)

-- the count that it published last for each hart, or 0
abbrev pub last_counts : KeeperSeat → List ℕ
last_counts s = s.last

-- how many harts a seat has counts of
abbrev pub width_of : KeeperSeat → ℕ
width_of s = s.harts

-- the beginning of what keeper k published for the hart h that the gate has seen
abbrev pub heard : GateSeat → ℕ → ℕ → List ℕ
heard g k h = known_at g.seat.me.0 (k * g.harts + h)

-- the count that the gate has seen, or 0
abbrev pub seen : GateSeat → ℕ → ℕ → ℕ
seen g k h = last_count (heard g k h)

-- a seat of one of the board's keepers
abbrev pub IsKeeperOf : Board → KeeperSeat → Type 0
IsKeeperOf b s = (s.seat.table_id ≡ b.table.shared.table_id) × (s.harts ≡ b.harts) × (s.keepers ≡ b.keepers)

-- a gate's seat at the board
abbrev pub IsGateOf : Board → GateSeat → Type 0
IsGateOf b g = (g.seat.table_id ≡ b.table.shared.table_id) × (g.harts ≡ b.harts) × (g.keepers ≡ b.keepers)

-- a seat of the same keeper at the same board, which published the same
abbrev pub IsSameKeeper : KeeperSeat → KeeperSeat → Type 0
IsSameKeeper s t = (t.seat.table_id ≡ s.seat.table_id) × (t.harts ≡ s.harts) × (t.keepers ≡ s.keepers) × (t.keeper ≡ s.keeper)
    × ((h : ℕ) → published t h ≡ published s h) × (last_counts t ≡ last_counts s)

-- a gate's seat at the same board; what it has seen may differ
abbrev pub IsSameGate : GateSeat → GateSeat → Type 0
IsSameGate g f = (f.seat.table_id ≡ g.seat.table_id) × (f.harts ≡ g.harts) × (f.keepers ≡ g.keepers)

-- why the seat s may not publish the position: its term is another than the board's; or it is the board's, and a count is below what s published last
abbrev pub Refuses : Board → KeeperSeat → Position → AckFault → Type 0
Refuses b s p OtherTerm = p.term ≢ b.term
Refuses b s p Lower = (p.term ≡ b.term) × ((h : ℕ) × (h < b.harts) × (slice_index p.counts h < last_count (published s h)))

-- the position is of the board's term, no count is below what the seat s published last, and t published what s did and then this count, for each hart
abbrev pub Publishes : Board → KeeperSeat → Position → KeeperSeat → Type 0
Publishes b s p t = (p.term ≡ b.term)
    × ((h : ℕ) → h < b.harts → (last_count (published s h) ≤ slice_index p.counts h) × (published t h ≡ published s h ++ slice_index p.counts h ∷ []))

-- keeper k's seat at the board, which has published nothing
abbrev pub IsDealt : Board → KeeperSeat → ℕ → Type 0
IsDealt b s k = IsKeeperOf b s × (s.keeper ≡ k) × ((h : ℕ) → published s h ≡ []) × (last_counts s ≡ replicate b.harts 0)
