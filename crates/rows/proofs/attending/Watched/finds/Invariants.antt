use denote.Shadow.{shadow}
use denote.Text.{Utf8}
use Rattle.rows.proofs.attending.Watched.finds.Given as goal

abbrev pub invariant-loop-tick : goal.invariant-loop-tick
invariant-loop-tick l = shadow (Utf8 l.rest)

abbrev pub invariant-loop-finding : goal.invariant-loop-finding
invariant-loop-finding l = shadow (Utf8 l.rest)
