use Rattle.std.proofs.Common.{◌≡◌}
use Rattle.page_book.specs.Reclaims.{closed}
use Rattle.page_book.proofs.giving.close_all.Given as goal

abbrev pub invariant-loop-place : goal.invariant-loop-place
invariant-loop-place l = l.leases ≡ closed l.place l.fn.leases
