use Rattle.std.proofs.Common.{◌≡◌, length, inl, inr, sym, ap, subst, ◌∙◌, arith}
use Rattle.go_live.specs.declared.fault.LiveFault.{LiveFault}
use Rattle.go_live.specs.declared.fault.LiveFault.TheVariants.{TooFewStores, TermNotNew}
use Rattle.failover_world.specs.Worlds.{WorldView, term_of}
use Rattle.failover_world.specs.Refusals.{CannotGoLive}
use Rattle.failover_world.proofs.Named.{told_of, too_few, not_new, none_due}
use Rattle.failover_world.proofs.world.World.why_not_live.Goals.{then-term-via-then-term, then-term-via-else-term+then-term-last}
use Rattle.failover_world.proofs.world.World.why_not_live.Goals as goal

pub returns-then-many-from-clause-due : goal.returns-then-many-from-clause-due
returns-then-many-from-clause-due c =
    let v : WorldView = record {
      image = c.self.inside.image;
      keepers = c.self.inside.keepers;
      need = c.self.inside.need;
      primary = c.self.inside.primary;
      runs = c.self.inside.runs;
      stopped = c.self.inside.stopped.items;
      sent = c.self.inside.sent.items;
      stores = c.self.inside.stores.items;
      gate = c.self.inside.gate;
      released = c.self.inside.released.items;
    } in
    let told = told_of v c.args.keepers.now c.deref.result.now c.count_named-many.result.0 c.count_named-many.result.1 c.deref.ensures.value
    c.count_named-many.ensures.many c.count_named-many.ensures.new c.count_named-many.ensures.old in
    let all : length v.stores ≡ v.keepers = c.self.invariant.parts.stores in
    let same = c.from.ensures in
    let few = c.if-many-from.true in
    subst (λ (w : WorldView). CannotGoLive w c.args.term c.args.keepers.now TooFewStores) c.self.view_is
    (too_few v c.args.term c.args.keepers.now c.count_named-many.result.0 c.count_named-many.result.1 told all (omega (arith, few, same)))

pub returns-then-term-clause-due : goal.returns-then-term-clause-due
returns-then-term-clause-due c =
    let v : WorldView = record {
      image = c.self.inside.image;
      keepers = c.self.inside.keepers;
      need = c.self.inside.need;
      primary = c.self.inside.primary;
      runs = c.self.inside.runs;
      stopped = c.self.inside.stopped.items;
      sent = c.self.inside.sent.items;
      stores = c.self.inside.stores.items;
      gate = c.self.inside.gate;
      released = c.self.inside.released.items;
    } in
    let told = told_of v c.args.keepers.now c.deref.result.now c.count_named-many.result.0 c.count_named-many.result.1 c.deref.ensures.value
    c.count_named-many.ensures.many c.count_named-many.ensures.new c.count_named-many.ensures.old in
    let all : length v.stores ≡ v.keepers = c.self.invariant.parts.stores in
    let same = c.from.ensures in
    let last : c.term.result ≡ term_of v = c.term.ensures ∙ ap (λ (w : WorldView). w.primary.opening.term) (sym c.self.view_is) in
    let most = c.if-many-from.false in
    subst (λ (w : WorldView). CannotGoLive w c.args.term c.args.keepers.now TermNotNew) c.self.view_is
    (not_new v c.args.term c.args.keepers.now c.count_named-many.result.0 c.count_named-many.result.1 told all (omega (arith, most, same))
    (elim c.then-term.branch [
      | then-term-via-then-term w ↦ let under = w.if-term in inl (omega (arith, last, under))
      | then-term-via-else-term+then-term-last w ↦ let under = w.if-term-last in inr (omega (arith, under))
    ]))

pub returns-clause-none : goal.returns-clause-none
returns-clause-none c =
    let v : WorldView = record {
      image = c.self.inside.image;
      keepers = c.self.inside.keepers;
      need = c.self.inside.need;
      primary = c.self.inside.primary;
      runs = c.self.inside.runs;
      stopped = c.self.inside.stopped.items;
      sent = c.self.inside.sent.items;
      stores = c.self.inside.stores.items;
      gate = c.self.inside.gate;
      released = c.self.inside.released.items;
    } in
    let told = told_of v c.args.keepers.now c.deref.result.now c.count_named-many.result.0 c.count_named-many.result.1 c.deref.ensures.value
    c.count_named-many.ensures.many c.count_named-many.ensures.new c.count_named-many.ensures.old in
    let all : length v.stores ≡ v.keepers = c.self.invariant.parts.stores in
    let same = c.from.ensures in
    let last : c.term.result ≡ term_of v = c.term.ensures ∙ ap (λ (w : WorldView). w.primary.opening.term) (sym c.self.view_is) in
    let most = c.if-many-from.false in
    let over = c.if-term.false in
    let past = c.if-term-last.false in
    subst (λ (w : WorldView). (fault : LiveFault) → CannotGoLive w c.args.term c.args.keepers.now fault → ⊥) c.self.view_is
    (none_due v c.args.term c.args.keepers.now c.count_named-many.result.0 c.count_named-many.result.1 told all (omega (arith, most, same))
    (omega (arith, last, over)) (omega (arith, past)))
