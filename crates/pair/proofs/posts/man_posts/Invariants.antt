use Rattle.std.proofs.Common.{◌≡◌, ◌++◌, length}
use Rattle.std.specs.Vec.Iter.{into_iter_items}
use Rattle.ack_core.specs.Seats.{keeper_of}
use Rattle.pair.specs.Posts.{IsPostOf}
use Rattle.pair.proofs.Places.{EachAt}
use Rattle.pair.proofs.posts.man_posts.Given as goal

abbrev pub invariant-loop-seat : goal.invariant-loop-seat
invariant-loop-seat l = record {
  count : length l.posts.items ≡ length l.yielded;
  posts : EachAt (λ k post. IsPostOf l.board post × (keeper_of post.seat ≡ k)) l.posts.items;
  rest : l.yielded ++ into_iter_items l.seat-iterator ≡ into_iter_items l.initial.seat-iterator;
}
