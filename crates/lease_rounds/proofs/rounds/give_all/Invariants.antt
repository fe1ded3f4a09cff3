use Rattle.std.proofs.Common.{◌≤◌, length}
use Rattle.ft_types.specs.declared.names.TheConstants.{PAGE_LIMIT}
use Rattle.lease_rounds.specs.Leading.{IsAlone, Fills}
use Rattle.lease_rounds.proofs.rounds.give_all.Given as goal

abbrev pub invariant-loop-number : goal.invariant-loop-number
invariant-loop-number g l =
    record {
      fills : Fills g.M.Mode l.fn.book l.fn.lease l.book l.lease;
      alone : IsAlone l.book l.lease;
      pages : l.number-end ≤ length l.book.machine.pages;
      limit : l.number-end ≤ PAGE_LIMIT;
    }
