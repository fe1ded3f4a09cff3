use Rattle.std.proofs.Common.{◌≡◌}
use Rattle.page_book.specs.Reclaims.{closed, EndsFirst}
use Rattle.page_book.proofs.book.Book.reclaim.Given as goal

abbrev pub invariant-loop-number : goal.invariant-loop-number
invariant-loop-number g l =
    (l.self ≡ record l.fn.self { leases = closed l.number l.fn.self.leases; mode = l.self.mode })
    × EndsFirst g.M.Mode.ends l.fn.self.machine l.fn.self.leases l.number l.fn.self.mode l.self.mode
