use Rattle.std.proofs.Common.{rules}
use Rattle.std.proofs.lemmas.List.Sorted.{IsNonDecreasingBy-from_sort_by_key, All-permutation}
use Rattle.ft_types.specs.Counts.{count_at}
use Rattle.closed_cut.specs.machinery.Lowering.{IsOf}
use Rattle.closed_cut.proofs.Lowerings.{greatest_of_sorted}
use Rattle.closed_cut.proofs.lowering.greatest_closed.Goals as goal

pub lowered-requires-clause-sorted : goal.lowered-requires-clause-sorted
lowered-requires-clause-sorted c =
    rw c.deref.ensures.value
    (IsNonDecreasingBy-from_sort_by_key (λ e. e.after) c.sort_unstable_by_key.new.self.items c.sort_unstable_by_key.ensures.sorted (λ a r f k. search rules))

pub lowered-requires-clause-edges : goal.lowered-requires-clause-edges
lowered-requires-clause-edges c =
    rw c.deref.ensures.value
    (All-permutation (IsOf _) c.args.edges.items c.sort_unstable_by_key.new.self.items c.sort_unstable_by_key.ensures.permutation c.requires)

pub returns-clause-greatest : goal.returns-clause-greatest
returns-clause-greatest c =
    greatest_of_sorted c.args.edges.items c.deref.result.now (count_at c.args.bound) (count_at c.lowered.result)
    (rw c.deref.ensures.value c.sort_unstable_by_key.ensures.permutation) c.lowered.ensures.greatest
