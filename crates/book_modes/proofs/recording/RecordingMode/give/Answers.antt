use Rattle.std.proofs.Common.{◌∙◌, ap, refl, sym}
use Rattle.crew_pages.specs.Rights.{Right, right_of, given}
use Rattle.ft_types.specs.Counts.{count_at}
use Rattle.book_modes.proofs.ledger.Holding.{had_given}
use Rattle.book_modes.proofs.ledger.Lending.{few_hold, right_stored_there, giving_kept}
use Rattle.book_modes.proofs.ledger.Yielding.{given_there, met_read}
use Rattle.book_modes.proofs.recording.RecordingMode.give.Goals as goal

pub returns-then-is_at_hand-clause-given : goal.returns-then-is_at_hand-clause-given
returns-then-is_at_hand-clause-given c =
    let g = c.requires in
    let asked = c.args.asked.now in
    let settled = count_at c.args.settled.now in
    let row = right_stored_there c.args.self.now g.machine g.leases asked g.asks in
    let few = few_hold c.args.self.now g.machine g.leases asked g.asks in
    let here = c.index_mut-right.result.now in
    let met =
    met_read c.args.self.now settled asked _ c.index.result here here c.self.view_is c.index.ensures.value row c.index_mut-right.ensures.value
    (sym (c.if-is_at_hand.ensures.stays refl settled)) few in
    given_there c.args.self.now settled asked _ c.index.result here c.self.view_is c.index.ensures.value row
    (sym (had_given (right_of here) asked.hart asked.want asked.count (c.if-is_at_hand.ensures.has refl)) ∙
    ap (λ (r : Right). given r asked.hart asked.want asked.count) met)

pub returns-then-is_at_hand-clause-kept : goal.returns-then-is_at_hand-clause-kept
returns-then-is_at_hand-clause-kept c found owed g =
    giving_kept c.args.self.now g.machine g.leases c.args.asked.now g.asks (count_at c.args.settled.now) g.counts g.free found owed _
    (returns-then-is_at_hand-clause-given c)

pub returns-clause-given : goal.returns-clause-given
returns-clause-given c =
    let g = c.requires in
    let asked = c.args.asked.now in
    let settled = count_at c.args.settled.now in
    let row = right_stored_there c.args.self.now g.machine g.leases asked g.asks in
    let few = few_hold c.args.self.now g.machine g.leases asked g.asks in
    let met =
    met_read c.args.self.now settled asked _ c.index.result c.index_mut-right.result.now c.yield_right.new.right c.self.view_is c.index.ensures.value row
    c.index_mut-right.ensures.value c.yield_right.ensures few in
    given_there c.args.self.now settled asked _ c.index.result c.give.new.self c.self.view_is c.index.ensures.value row
    (c.give.ensures ∙ ap (λ (r : Right). given r asked.hart asked.want asked.count) met)

pub returns-clause-kept : goal.returns-clause-kept
returns-clause-kept c found owed g =
    giving_kept c.args.self.now g.machine g.leases c.args.asked.now g.asks (count_at c.args.settled.now) g.counts g.free found owed _ (returns-clause-given c)
