use Rattle.lease_rounds.proofs.Filling.{alone_for}
use Rattle.hart_threads.proofs.together.fill_watched.Goals as goal

pub fill-requires : goal.fill-requires
fill-requires g c =
    record {
      free = c.requires.free;
      alone =
          alone_for c.loop-look.book c.loop-look.lease c.allow.new.self c.min.result c.allow.ensures.value c.allow.ensures.lent c.loop-look.invariant;
    }
