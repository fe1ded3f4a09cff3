use Rattle.std.proofs.Common.{◌≡◌, ◌&&◌, not, is_some}
use Rattle.std.specs.Prelude.{◌||◌}
use Rattle.std.specs.BTreeMap.{get, keys}
use Rattle.log_join.specs.machinery.Contents.{is_among}
use Rattle.log_join.proofs.shelf.missing_keys.Given as goal

-- the keys so far, and those that are left and missing, are those that are missing
abbrev pub invariant-loop-key : goal.invariant-loop-key
invariant-loop-key g l =
    let cmp = g.K.Ord.cmp in
    (q : _) → (is_among cmp l.missing.items q || (is_among cmp l.key-iterator q && not (is_some (get cmp l.mine q)))) ≡ (is_among cmp (keys l.theirs) q && not
    (is_some (get cmp l.mine q)))
