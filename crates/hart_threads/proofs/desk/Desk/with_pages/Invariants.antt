use Rattle.std.proofs.Common.{◌≡◌}
use Rattle.page_book.specs.Books.{IsOurs}
use Rattle.hart_threads.proofs.desk.Desk.with_pages.Given as goal

abbrev pub invariant-loop-number : goal.invariant-loop-number
invariant-loop-number g l =
    record {
      ours : IsOurs l.self.book l.lease;
      pages : l.self.book.machine ≡ l.fn.self.book.machine;
    }
