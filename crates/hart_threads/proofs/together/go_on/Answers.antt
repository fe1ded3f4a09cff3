use Rattle.lease_rounds.proofs.Filling.{ends_without, idle_ended}
use Rattle.hart_threads.proofs.together.go_on.Goals as goal

pub returns-then-is_err : goal.returns-then-is_err
returns-then-is_err g c =
    record {
      idle =
          idle_ended g.M.Mode c.fill_watched.new.book c.discard-ended.new.self c.fill_watched.new.lease c.fill_watched.ensures.alone
          (ends_without g.M.Mode c.fill_watched.new.book c.discard-ended.new.self c.fill_watched.new.lease c.discard-ended.result
          c.fill_watched.ensures.alone c.discard-ended.ensures.ok c.discard-ended.ensures.mode c.discard-ended.ensures.foreign);
    }
