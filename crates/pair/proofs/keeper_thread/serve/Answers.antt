use Rattle.std.proofs.Common.{[], ap, refl, subst, sym, ◌∙◌}
use Rattle.ft_types.specs.Guests.{GuestParts}
use Rattle.log_join.specs.Stores.{StoreView}
use Rattle.pair.specs.Serving.{HadAll}
use Rattle.pair.proofs.Served.{HasCome, come_on, told_on, none_told}
use Rattle.pair.proofs.keeper_thread.serve.Goals as goal

pub loop-init : goal.loop-init
loop-init g c = record {
  seat = c.requires.0;
  keeper = refl;
  harts = c.requires.2;
  come = ([], c.requires.3);
  had = none_told c.args.board.now c.args.post.seat c.args.post.store c.requires.1;
}

pub loop-preserved : goal.loop-preserved
loop-preserved g c = record {
  seat = c.in_ok-keep.ensures.seat.0;
  keeper = c.in_ok-keep.ensures.seat.1 ∙ c.loop.invariant.keeper;
  harts = ap (λ (s : StoreView). s.guest.harts) c.in_ok-keep_up-2.ensures ∙ ap (λ (g : GuestParts). g.harts) c.in_ok-keep.ensures.guest ∙ c.loop.invariant.harts;
  come = subst HasCome (sym c.in_ok-keep_up-2.ensures)
      (come_on c.loop.store c.keep.new.store _ c.loop.invariant.come c.in_ok-keep.ensures.taken);
  had = subst (λ (s : StoreView). HadAll c.args.board.now c.keep.new.seat s) (sym c.in_ok-keep_up-2.ensures)
      (told_on c.args.board.now c.loop.seat c.keep.new.seat c.loop.store c.keep.new.store _ c.loop.invariant.come c.loop.invariant.had c.in_ok-keep.ensures.taken
      c.in_ok-keep.ensures.tells);
}

pub returns-then-ended : goal.returns-then-ended
returns-then-ended g c = record {
  seat = c.in_ok-keep.ensures.seat.0;
  keeper = c.in_ok-keep.ensures.seat.1 ∙ c.loop.invariant.keeper;
  had = subst (λ (s : StoreView). HadAll c.args.board.now c.keep.new.seat s) (sym c.keep_up.ensures)
      (told_on c.args.board.now c.loop.seat c.keep.new.seat c.loop.store c.keep.new.store _ c.loop.invariant.come c.loop.invariant.had c.in_ok-keep.ensures.taken
      c.in_ok-keep.ensures.tells);
}
