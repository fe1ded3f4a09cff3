use Rattle.std.proofs.Common.{ℕ, List, slice_set, ap, ◌∙◌}
use Rattle.warm_backup.proofs.Steps.{has_facts}
use Rattle.warm_backup.proofs.growing.grow_hart.Goals as goal

pub returns-clause-facts : goal.returns-clause-facts
returns-clause-facts c =
    let leg = c.take_facts.new.leg in
    let hart = c.args.hart in
    let end = c.args.end in
    let up_to = c.in_ok-take_facts.ensures.taken in
    let of = up_to.taken.leg in
    has_facts c.args.store.now c.args.leg.now (record leg { ends = c.set.new.self }) hart end up_to.taken.added c.requires.facts
    (record { term = of.term; base = of.base; edges = of.edges; inputs = of.inputs; notes = of.notes })
    (c.set.ensures ∙ ap (λ (row : List ℕ). slice_set row hart end) c.take_facts.ensures.ends) c.requires.hart up_to.exact c.requires.inside
