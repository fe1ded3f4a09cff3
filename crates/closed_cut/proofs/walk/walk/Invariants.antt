use Rattle.std.proofs.Common.{◌≡◌, ℕ, drop}
use Rattle.log_join.specs.Cells.{One}
use Rattle.log_join.specs.Stores.{opening_at}
use Rattle.closed_cut.specs.Chain.{LeadsTo}
use Rattle.closed_cut.specs.Position.{Stops}
use Rattle.closed_cut.proofs.walk.walk.Given as goal

abbrev pub invariant-loop-term : goal.invariant-loop-term
invariant-loop-term l =
    record {
      opens : opening_at l.store l.now.term ≡ One l.now;
      leads : LeadsTo l.store l.now.term (drop l.term-index l.rest) l.top;
      on : (term : ℕ) (cut : ℕ → ℕ) → Stops l.store l.top term cut l.now.term → Stops l.store l.top term cut l.root.term;
    }
