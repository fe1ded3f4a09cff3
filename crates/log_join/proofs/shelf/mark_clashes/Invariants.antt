use Rattle.std.proofs.Common.{◌≡◌}
use Rattle.std.specs.List.Sorted.{IsStrictlySortedBy}
use Rattle.std.specs.Map.{keys_of, lookup}
use Rattle.std.specs.BTreeMap.{get, is_at}
use Rattle.log_join.specs.machinery.Contents.{marked}
use Rattle.log_join.proofs.shelf.mark_clashes.Given as goal

-- what is left, joined to what is here, is what is there, joined to what was here
abbrev pub invariant-loop-key : goal.invariant-loop-key
invariant-loop-key g l =
    let cmp = g.K.Ord.cmp in
    IsStrictlySortedBy cmp (keys_of l.key-iterator)
    × ((q : _) → marked (get cmp l.mine q) (lookup (is_at (cmp q)) l.key-iterator) ≡ marked (get cmp l.fn.mine q) (get cmp l.theirs q))
