use Rattle.std.proofs.Common.{◌≡◌}
use Rattle.ack_core.specs.Seats.{harts_of, keeper_of, IsKeeperOf}
use Rattle.pair.specs.Serving.{HadAll}
use Rattle.pair.proofs.Served.{HasCome}
use Rattle.pair.proofs.keeper_thread.serve.Given as goal

abbrev pub invariant-loop : goal.invariant-loop
invariant-loop g l = record {
  seat : IsKeeperOf l.board l.seat;
  keeper : keeper_of l.seat ≡ keeper_of l.fn.post.seat;
  harts : l.store.guest.harts ≡ harts_of l.board;
  come : HasCome l.store;
  had : HadAll l.board l.seat l.store;
}
