use Rattle.std.proofs.Common.{◌<◌, ◌≤◌, ℕ, take, arith, inr, subst, sym}
use Rattle.std.proofs.lemmas.List.{take_all}
use Rattle.std.proofs.lemmas.List.Elements.{All-nil, All-more, All-map, All-same}
use Rattle.log_join.specs.Stores.{StoreView}
use Rattle.go_live.specs.Quorums.{HasTerm}
use Rattle.go_live.proofs.Newness.{is_later, is_earlier, any_made}
use Rattle.fenced_live.proofs.given.is_new.Goals as goal

pub loop-one-init : goal.loop-one-init
loop-one-init c = All-nil (λ g. (other : ℕ) → HasTerm g.store.now other → other < c.args.term)

pub returns-then-last_term-term-clause-old : goal.returns-then-last_term-term-clause-old
returns-then-last_term-term-clause-old c = λ no.
    let item = c.one-item.result in
    inr (any_made (λ g. g.store.now) (λ (store : StoreView). (other : ℕ) × (c.args.term ≤ other) × HasTerm store other) c.args.given.now c.loop-one.one-index
    item (omega arith) c.one-item.is
    (is_earlier item.store.now c.last_term.result c.args.term c.last_term.ensures (omega arith) (omega arith)))

pub loop-one-preserved : goal.loop-one-preserved
loop-one-preserved c =
    let item = c.one-item.result in
    All-more (λ g. (other : ℕ) → HasTerm g.store.now other → other < c.args.term) c.args.given.now c.loop-one.one-index item (omega arith)
    c.loop-one.invariant
    (subst (λ g. (other : ℕ) → HasTerm g.store.now other → other < c.args.term) c.one-item.is
    (is_later item.store.now c.last_term.result c.args.term c.last_term.ensures (omega arith)))

pub returns-clause-new : goal.returns-clause-new
returns-clause-new c = λ yes. record {
  granted = omega arith;
  later =
      All-map (λ (store : StoreView). (other : ℕ) → HasTerm store other → other < c.args.term) (λ g. g.store.now) c.args.given.now
      (All-same (λ g. (other : ℕ) → HasTerm g.store.now other → other < c.args.term) c.args.given.now
      (take c.loop-one.one-index c.args.given.now) (sym (take_all c.loop-one.one-index c.args.given.now (omega arith))) c.loop-one.invariant);
}
