use Rattle.std.proofs.Common.{◌≡◌, ◌-◌, ℕ, List, Option, length}
use Rattle.std.specs.Option.{option_map}
use Rattle.ft_types.specs.Counts.{count_at}
use Rattle.log_join.specs.Cells.{One}
use Rattle.log_join.specs.Stores.{opening_at}
use Rattle.closed_cut.specs.Position.{base_of, InChain, Stops}
use Rattle.tracked_position.specs.machinery.Cuts.{IsCutOf}
use Rattle.tracked_position.specs.machinery.Walks.{AreOver}
use Rattle.tracked_position.specs.machinery.Legs.{IsNext}
use Rattle.tracked_position.proofs.taking.go_on.Given as goal

abbrev pub invariant-loop-next : goal.invariant-loop-next
invariant-loop-next l =
    record {
      long : length l.counts ≡ length l.initial.counts;
      opens : opening_at l.store l.now.term ≡ One l.now;
      in_chain : InChain l.store l.now.term l.top;
      harts : length l.counts ≡ length l.now.base;
      cut : (limit : Option (List ℕ)) → IsNext l.store l.top l.now.term limit →
          IsCutOf l.store l.now.term (base_of l.now) (option_map count_at limit) (count_at l.counts);
      over : AreOver l.store l.now.term (base_of l.now) (count_at l.counts) l.cursors;
      on : (to : ℕ) (cut : ℕ → ℕ) → Stops l.store l.top to cut l.now.term → Stops l.store l.top to cut l.opening.term;
    }

abbrev pub decreases-loop-next : goal.decreases-loop-next
decreases-loop-next l = l.top - l.now.term
