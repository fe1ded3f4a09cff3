use Rattle.std.proofs.Common.{◌∙◌, ap, sym, subst, List}
use Rattle.std.specs.BTreeMap.{get, is_at}
use Rattle.std.specs.Map.{lookup, keys_of}
use Rattle.std.specs.List.Sorted.{IsStrictlySortedBy}
use Rattle.std.proofs.lemmas.Map.Keys.{sorted_tail}
use Rattle.frame_content.specs.declared.content.Content.{Content}
use Rattle.log_join.specs.machinery.Contents.{marked}
use Rattle.log_join.proofs.Maps.{marked_front, marked_none}
use Rattle.log_join.proofs.shelf.mark_clashes.Goals as goal

pub loop-key-preserved : goal.loop-key-preserved
loop-key-preserved g c =
    let cmp = g.K.Ord.cmp in
    let steps = c.in-Some.ensures.steps in
    let rising = subst (λ (it : List (g.row.K.Denot × Content)). IsStrictlySortedBy cmp (keys_of it)) steps c.loop-key.invariant.0 in (
      sorted_tail cmp _ _ rising,
      λ q.
          ap (λ here. marked here (lookup (is_at (cmp q)) c.next.new.self)) (c.mark_one.ensures q)
          ∙ marked_front g.met.K.Ord.total c.in-Some.key.now c.in-Some.there.now c.next.new.self q (get cmp c.loop-key.mine q) rising
          ∙ sym (ap (λ it. marked (get cmp c.loop-key.mine q) (lookup (is_at (cmp q)) it)) steps)
          ∙ c.loop-key.invariant.1 q,
    )

pub loop-key-init : goal.loop-key-init
loop-key-init g c =
    let cmp = g.K.Ord.cmp in
    let gives = c.into_iter-key-iterator.ensures.into_iter_gives in (
      subst (λ (it : List (g.row.K.Denot × Content)). IsStrictlySortedBy cmp (keys_of it)) (sym gives.0) gives.5,
      λ q.
          ap (λ it. marked (get cmp c.args.mine.now q) (lookup (is_at (cmp q)) it)) gives.0,
    )

pub returns : goal.returns
returns g c = λ q.
    let cmp = g.K.Ord.cmp in
    sym (marked_none (get cmp c.loop-key.mine q))
    ∙ sym (ap (λ it. marked (get cmp c.loop-key.mine q) (lookup (is_at (cmp q)) it)) c.in-None.ensures.steps.0)
    ∙ c.loop-key.invariant.1 q
