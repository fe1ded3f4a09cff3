use Rattle.std.specs.Option.{option_map}
use Rattle.ft_types.specs.Counts.{count_at}
use Rattle.closed_cut.specs.Position.{base_of}
use Rattle.tracked_position.proofs.Bounds.{held_below, more_over}
use Rattle.tracked_position.proofs.raising.reach.Goals as goal

pub returns-then-not-all_held-clause-over : goal.returns-then-not-all_held-clause-over
returns-then-not-all_held-clause-over c =
    more_over c.args.store.now c.args.opening.now.term (base_of c.args.opening.now) (count_at c.raise-waits.new.cut) (count_at c.lower.new.cut)
    c.raise-waits.new.cursors (c.lower.ensures.greatest.bound (count_at c.raise-waits.new.cut) c.raise-waits.ensures.cut) c.raise-waits.ensures.over

pub returns-else-not-all_held-clause-greatest : goal.returns-else-not-all_held-clause-greatest
returns-else-not-all_held-clause-greatest c =
    record {
      cut_of = c.raise-waits.ensures.cut;
      bound =
          λ other is h.
          held_below c.args.store.now c.requires.rules c.args.opening.now.term (base_of c.args.opening.now) (option_map count_at c.args.limit.now)
          (count_at c.raise-waits.new.cut)
          c.raise-waits.result c.raise-waits.ensures.waits other is h (c.all_held.ensures c.if-not-all_held.false h);
    }
