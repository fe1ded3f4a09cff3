use Rattle.std.proofs.Common.{◌≡◌, length}
use Rattle.lease_rounds.specs.Leading.{IsIdle, RoundsFor}
use Rattle.lease_rounds.proofs.rounds.go_round.Given as goal

abbrev pub invariant-loop-number : goal.invariant-loop-number
invariant-loop-number g l =
    record {
      rounds : RoundsFor g.M.Mode l.most l.keep l.fn.book l.went l.number l.book;
      idle : IsIdle l.book;
      harts : length l.book.machine.harts ≡ length l.fn.book.machine.harts;
    }
