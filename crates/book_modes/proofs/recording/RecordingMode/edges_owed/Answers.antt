use Rattle.std.proofs.Common.{◌∙◌, ◌↔◌, Contains, ap, refl, sym, subst, rules}
use Rattle.crew_pages.specs.Rights.{Right, has_it, right_of, IsOwed}
use Rattle.edge_log.specs.EdgeLog.{edge_as}
use Rattle.book_modes.specs.Recordings.{right_met}
use Rattle.book_modes.proofs.ledger.Holding.{lacks_still, owes_none}
use Rattle.book_modes.proofs.ledger.Lending.{few_hold, right_stored_there}
use Rattle.book_modes.proofs.ledger.Yielding.{met_read}
use Rattle.ft_types.specs.Counts.{count_at}
use Rattle.ft_types.specs.declared.names.TheConstants.{HART_LIMIT}
use Rattle.book_modes.proofs.recording.RecordingMode.edges_owed.Goals as goal

pub edges_owed-requires : goal.edges_owed-requires
edges_owed-requires c =
    let asked = c.args.asked.now in
    ap (λ (r : Right). has_it r asked.hart asked.want) c.yield_right.ensures ∙
    lacks_still asked (count_at c.args.settled.now) HART_LIMIT (right_of c.index-right.result.now) (c.if-is_at_hand.ensures.lacks refl)

pub returns-then-is_at_hand : goal.returns-then-is_at_hand
returns-then-is_at_hand c =
    let g = c.requires in
    let asked = c.args.asked.now in
    let row = right_stored_there c.args.self.now g.machine g.leases asked g.asks in
    let few = few_hold c.args.self.now g.machine g.leases asked g.asks in
    let met =
    met_read c.args.self.now (count_at c.args.settled.now) asked _ c.index.result c.index-right.result.now c.index-right.result.now c.self.view_is
    c.index.ensures.value row c.index-right.ensures (sym (c.if-is_at_hand.ensures.stays refl (count_at c.args.settled.now))) few in
    record {
      exact = λ e.
          rw c.new.ensures.items
          (owes_none (right_met c.args.self.now (count_at c.args.settled.now) asked) asked.hart asked.want asked.count e
          (ap (λ r. has_it r asked.hart asked.want) (sym met) ∙ c.if-is_at_hand.ensures.has refl));
      rising = rw c.new.ensures.items (search rules);
    }

pub returns : goal.returns
returns c =
    let g = c.requires in
    let asked = c.args.asked.now in
    let row = right_stored_there c.args.self.now g.machine g.leases asked g.asks in
    let few = few_hold c.args.self.now g.machine g.leases asked g.asks in
    let met =
    met_read c.args.self.now (count_at c.args.settled.now) asked _ c.index.result c.index-right.result.now c.yield_right.new.right c.self.view_is
    c.index.ensures.value row c.index-right.ensures c.yield_right.ensures few in
    record {
      exact = λ e.
          subst (λ (r : Right). Contains c.edges_owed.result.items e ↔ IsOwed r asked.hart asked.want asked.count (edge_as e)) met
          (c.edges_owed.ensures.exact e);
      rising = c.edges_owed.ensures.rising;
    }
