use Rattle.std.specs.Ordering.{nat_cmp, ordering_then}
use Rattle.std.proofs.lemmas.Map.Keys.{ge_from_not_lt}
use Rattle.log_join.proofs.Listed.{first_not_less}
use Rattle.log_join.proofs.shelves.Shelves.last_fragment.Goals as goal

pub returns-in-Some-clause-above : goal.returns-in-Some-clause-above
returns-in-Some-clause-above c q h =
    let p = c.in-Some.place.now in
    rw c.term.ensures
    (ge_from_not_lt p.term q.term
    (first_not_less (nat_cmp p.term q.term) (ordering_then (nat_cmp p.hart q.hart) (nat_cmp p.place q.place)) (c.in-Some.ensures.greatest q h)))
