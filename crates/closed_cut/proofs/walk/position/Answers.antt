use Rattle.std.proofs.Common.{◌≡◌, refl, sym, subst, ◌∙◌}
use Rattle.ft_types.specs.Counts.{count_at}
use Rattle.log_join.specs.Cells.{One}
use Rattle.log_join.specs.Stores.{opening_at}
use Rattle.closed_cut.specs.Chain.{IsTop, LeadsTo}
use Rattle.closed_cut.specs.Position.{NoTop, Top, InChain, Stops}
use Rattle.closed_cut.proofs.Chains.{IsLine, line_of_chain, no_chain, both_then, zero_row, leads_in_chain}
use Rattle.closed_cut.proofs.walk.position.Goals as goal

pub returns-in_default-clause-position : goal.returns-in_default-clause-position
returns-in_default-clause-position c =
    NoTop
    (no_chain c.args.store.now c.in_ok-terms.terms.items c.guest.ensures.rules c.in_ok-terms.ensures
    (rw c.as_slice.ensures.value at c.in_default.ensures.cases))
    refl (λ h. rw c.zero.ensures (zero_row c.harts.result h)) refl

-- the chain, as it is walked
line : (c : goal.In-Some-opening_of) → IsLine c.args.store.now c.in-Some.first.now c.in-Some.rest.now c.last_of-top.result
line c =
    line_of_chain c.args.store.now c.in_ok-terms.terms.items c.in-Some.first.now c.in-Some.rest.now c.last_of-top.result c.in_ok-terms.ensures
    (sym c.as_slice.ensures.value ∙ c.in-Some.ensures.cases.0)
    (rw c.deref.ensures.value at c.last_of-top.ensures)

pub walk-requires-clause-root : goal.walk-requires-clause-root
walk-requires-clause-root c =
    let root = c.in-Some-opening_of.root.now in
    let same = (c.opening_of.ensures.rules.openings c.in-Some.first.now root c.in-Some-opening_of.ensures.one).same_term in
    subst (λ t. opening_at c.args.store.now t ≡ One root) (sym same) c.in-Some-opening_of.ensures.one

pub walk-requires-clause-rest : goal.walk-requires-clause-rest
walk-requires-clause-rest c =
    let root = c.in-Some-opening_of.root.now in
    let same = (c.opening_of.ensures.rules.openings c.in-Some.first.now root c.in-Some-opening_of.ensures.one).same_term in
    subst (λ t. LeadsTo c.args.store.now t c.in-Some.rest.now c.last_of-top.result) (sym same) (line c).leads

pub walk-requires-clause-sound : goal.walk-requires-clause-sound
walk-requires-clause-sound c = (line c).is_top.sound

pub returns-clause-position : goal.returns-clause-position
returns-clause-position c =
    let store = c.args.store.now in
    let root = c.in-Some-opening_of.root.now in
    let first = c.in-Some.first.now in
    let top = c.last_of-top.result in
    let l : IsLine store first c.in-Some.rest.now top =
    line_of_chain store c.in_ok-terms.terms.items first c.in-Some.rest.now top c.in_ok-terms.ensures
    (sym c.as_slice.ensures.value ∙ c.in-Some.ensures.cases.0)
    (rw c.deref.ensures.value at c.last_of-top.ensures) in
    let same = (c.opening_of.ensures.rules.openings first root c.in-Some-opening_of.ensures.one).same_term in
    both_then c.walk.result c.walk.ensures.top c.walk.ensures.stops
    (λ p is stops.
    Top
    (record {
      top = subst (IsTop store) (sym is) l.is_top;
      root = first;
      opening = l.parent.opening;
      opens = l.parent.opens;
      first = l.parent.is;
      in_chain = subst (InChain store first) (sym is) (leads_in_chain store first c.in-Some.rest.now top l.leads);
      stops = subst (λ t. Stops store t p.term (count_at p.counts) first) (sym is) (subst (Stops store top p.term (count_at p.counts)) same stops);
    }))
