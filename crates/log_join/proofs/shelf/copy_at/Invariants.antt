use Rattle.std.proofs.Common.{◌≡◌, take}
use Rattle.std.specs.BTreeMap.{get}
use Rattle.log_join.specs.machinery.Contents.{is_among, copied}
use Rattle.log_join.proofs.shelf.copy_at.Given as goal

abbrev pub invariant-loop-key : goal.invariant-loop-key
invariant-loop-key g l = (q : _) → get g.K.Ord.cmp l.shelf q ≡ copied (is_among g.K.Ord.cmp (take l.key-index l.keys) q) (get g.K.Ord.cmp l.fn.shelf q)
    (get g.K.Ord.cmp l.theirs q)
