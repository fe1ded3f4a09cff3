-- What the threads of a pair begin with.
use Rattle.std.specs.Prelude.{◌≡◌, ℕ, ◌<◌, ◌≤◌, List, [], length, slice_index_or, replicate}
use Rattle.ft_types.specs.declared.names.TheConstants.{HART_LIMIT}
use Rattle.ack_core.specs.declared.board.Board.{Board}
use Rattle.ack_core.specs.declared.seats.KeeperSeat.{KeeperSeat}
use Rattle.ack_core.specs.Seats.{harts_of, keepers_of, keeper_of, published, IsKeeperOf, IsDealt}
use Rattle.hart_lease.specs.Runs.{counts_of}
use Rattle.log_join.specs.Stores.{nothing}
use Rattle.output_gate.specs.Gates.{offered_of}
use Rattle.lease_rounds.specs.Running.{IsIdle}
use Rattle.log_streams.specs.Primary.{IsFirst}
use Rattle.pair.specs.declared.posts.Post.{Post}
use Rattle.pair.specs.declared.posts.Watch.{Watch}
use Rattle.pair.specs.declared.posts.PrimaryPost.{PrimaryPost}
use Rattle.pair.specs.Exits.{IsAtBoard}

-- the seats of the board's keepers, in their order, which have published nothing
abbrev pub AreKeepersOf : Board → List KeeperSeat → Type 0
AreKeepersOf board seats =
    (length seats ≡ keepers_of board) × ((k : ℕ) (other : KeeperSeat) → k < length seats → IsDealt board (slice_index_or seats k other) k)

-- the post of one of the board's keepers, which has published nothing, and to whose store, of a guest with the board's harts, nothing came
abbrev pub IsPostOf : Board → Post → Type 0
IsPostOf board post =
    IsKeeperOf board post.seat × ((hart : ℕ) → published post.seat hart ≡ []) × (post.store.guest.harts ≡ harts_of board)
    × (post.store ≡ nothing post.store.guest)

-- the posts of the board's keepers, in their order
abbrev pub ArePostsOf : Board → List Post → Type 0
ArePostsOf board posts =
    (length posts ≡ keepers_of board)
    × ((k : ℕ) (other : Post) → k < length posts → IsPostOf board (slice_index_or posts k other) × (keeper_of (slice_index_or posts k other).seat ≡ k))

-- the board's gate, to which nothing was offered
pub record IsWatchOf (board : Board) (watch : Watch) : Type 0 where
  pub place : IsAtBoard board watch.gate watch.seat
  pub empty : (hart : ℕ) → hart < HART_LIMIT → offered_of watch.gate hart ≡ []

-- a primary of term 1 that no lease holds up, and whose harts may each go to the budget, which none is past
pub record MayLead (post : PrimaryPost) : Type 0 where
  pub first : IsFirst post.primary
  pub idle : IsIdle post.primary.book
  pub limits : post.primary.book.mode.limits ≡ replicate (length post.primary.book.machine.harts) post.budget
  pub below : (hart : ℕ) → counts_of post.primary.book.machine hart ≤ post.budget
