use Rattle.std.proofs.Common.{◌≡◌, take, cond}
use Rattle.std.specs.Prelude.{None}
use Rattle.std.specs.BTreeMap.{get}
use Rattle.log_join.specs.machinery.Contents.{is_among}
use Rattle.log_join.proofs.shelf.remove_at.Given as goal

abbrev pub invariant-loop-key : goal.invariant-loop-key
invariant-loop-key g l = (q : _) → get g.K.Ord.cmp l.shelf q ≡ cond (is_among g.K.Ord.cmp (take l.key-index l.keys) q) None (get g.K.Ord.cmp l.fn.shelf q)
