use Rattle.std.proofs.Common.{◌≡◌, take}
use Rattle.log_streams.specs.Primary.{AreOfferedTo}
use Rattle.log_streams.proofs.first_term.offer_script.Given as goal

abbrev pub invariant-loop-offered : goal.invariant-loop-offered
invariant-loop-offered l =
    (l.primary ≡ record l.fn.primary { book = record l.fn.primary.book { mode = l.primary.book.mode } })
    × AreOfferedTo l.fn.primary.book.mode (take l.offered-index l.script) l.primary.book.mode
