use Rattle.std.proofs.Common.{sym, true≢false, ◌∙◌}
use Rattle.edge_log.proofs.Rows.{put_over, put_between}
use Rattle.edge_log.proofs.row.put.Goals as goal

pub returns-then-has_twin-clause-put : goal.returns-then-has_twin-clause-put
returns-then-has_twin-clause-put c =
    put_over c.args.edges.now.items c.args.edge c.place_of-place.result c.requires.rising
    (rw c.deref.ensures.value at c.place_of-place.ensures.before) (rw c.deref-2.ensures.value at (c.has_twin.ensures.0 c.if-has_twin.true))

pub returns-clause-put : goal.returns-clause-put
returns-clause-put c =
    rw (c.insert.ensures.items, c.insert.ensures.succeeds c.requires.room)
    (put_between c.args.edges.now.items c.args.edge c.place_of-place.result c.requires.rising c.requires.last
    (rw c.deref.ensures.value at c.place_of-place.ensures.within)
    (rw c.deref.ensures.value at c.place_of-place.ensures.before) (rw c.deref.ensures.value at c.place_of-place.ensures.behind)
    (λ stands. true≢false (sym (c.has_twin.ensures.1 (rw c.deref-2.ensures.value stands)) ∙ c.if-has_twin.false)))
