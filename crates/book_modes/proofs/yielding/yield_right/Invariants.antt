use Rattle.std.proofs.Common.{◌≡◌}
use Rattle.ft_types.specs.Counts.{count_at}
use Rattle.crew_pages.specs.Rights.{right_of}
use Rattle.book_modes.specs.machinery.Yielding.{yielded}
use Rattle.book_modes.proofs.yielding.yield_right.Given as goal

abbrev pub invariant-loop-number : goal.invariant-loop-number
invariant-loop-number l = right_of l.right ≡ yielded l.asked (count_at l.settled) l.number (right_of l.initial.right)
