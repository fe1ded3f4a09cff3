use Rattle.std.proofs.Common.{◌<◌, ◌≤◌, ℕ, take, arith, inr, subst, sym}
use Rattle.std.proofs.lemmas.List.{take_all}
use Rattle.std.proofs.lemmas.List.Elements.{All-nil, All-more, All-map, All-same}
use Rattle.log_join.specs.Stores.{StoreView}
use Rattle.go_live.specs.Quorums.{HasTerm}
use Rattle.go_live.proofs.Newness.{is_later, is_earlier, any_made}
use Rattle.go_live.proofs.quorum.is_new.Goals as goal

pub loop-store-init : goal.loop-store-init
loop-store-init c = All-nil (λ s. (other : ℕ) → HasTerm s.1.now other → other < c.args.term)

pub returns-then-last_term-term-clause-old : goal.returns-then-last_term-term-clause-old
returns-then-last_term-term-clause-old c = λ no.
    let item = c.loop-store-item.result in
    inr (any_made (λ s. s.1.now) (λ (store : StoreView). (other : ℕ) × (c.args.term ≤ other) × HasTerm store other) c.args.stores.now c.loop-store.store-index
    item (omega arith) c.loop-store-item.is
    (is_earlier item.1.now c.last_term.result c.args.term c.last_term.ensures (omega arith) (omega arith)))

pub loop-store-preserved : goal.loop-store-preserved
loop-store-preserved c =
    let item = c.loop-store-item.result in
    All-more (λ s. (other : ℕ) → HasTerm s.1.now other → other < c.args.term) c.args.stores.now c.loop-store.store-index item (omega arith)
    c.loop-store.invariant
    (subst (λ s. (other : ℕ) → HasTerm s.1.now other → other < c.args.term) c.loop-store-item.is
    (is_later item.1.now c.last_term.result c.args.term c.last_term.ensures (omega arith)))

pub returns-clause-new : goal.returns-clause-new
returns-clause-new c = λ yes. record {
  granted = omega arith;
  later =
      All-map (λ (store : StoreView). (other : ℕ) → HasTerm store other → other < c.args.term) (λ s. s.1.now) c.args.stores.now
      (All-same (λ s. (other : ℕ) → HasTerm s.1.now other → other < c.args.term) c.args.stores.now
      (take c.loop-store.store-index c.args.stores.now) (sym (take_all c.loop-store.store-index c.args.stores.now (omega arith))) c.loop-store.invariant);
}
