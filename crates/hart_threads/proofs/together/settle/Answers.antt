use Rattle.book_modes.specs.declared.keep.Keep.TheVariants as told
use Rattle.lease_rounds.proofs.Filling.{idle_at_last}
use Rattle.hart_threads.proofs.together.settle.Goals as goal

pub returns : goal.returns
returns g c =
    record {
      idle =
          idle_at_last g.M.Mode c.args.book.now c.bring_back.new.book c.args.lease told.All c.bring_back.result c.requires.alone
          c.bring_back.ensures.back c.bring_back.ensures.ends;
    }

pub returns-then-is_err : goal.returns-then-is_err
returns-then-is_err g c =
    record {
      idle =
          idle_at_last g.M.Mode c.args.book.now c.bring_back.new.book c.args.lease told.All c.bring_back.result c.requires.alone
          c.bring_back.ensures.back c.bring_back.ensures.ends;
    }
