use Rattle.std.proofs.Common.{◌≡◌, ◌+◌, ◌≤◌, refl, ap, sym, true≢false, arith, inl}
use Rattle.hart_lease.specs.Leases.{LeaseView, IsFull}
use Rattle.hart_lease.proofs.steps.Running.{joined, one_more, same_most, stopped, steps_one}
use Rattle.hart_lease.proofs.lease.Lease.run.Goals as goal

pub returns-in_default : goal.returns-in_default
returns-in_default c = record {
  does = stopped c.first_tick.result 0 c.args.self.now c.args.self.now c.first_tick.new.self c.in_default.not-Done refl c.requires c.first_tick.ensures.does;
  lent = c.first_tick.ensures.lent;
}

pub returns-then-full-clause-does : goal.returns-then-full-clause-does
returns-then-full-clause-does c =
    let a = c.loop-self.invariant.steps in
    let b = c.go_quietly.ensures.steps in
    (a.0 + b.0, joined a.0 b.0 c.args.self.now c.loop-self.self c.go_quietly.new.self a.1 b.1, c.if-full.ensures.0 refl)

pub returns-then-full-clause-lent : goal.returns-then-full-clause-lent
returns-then-full-clause-lent c m counts earlier lent = c.go_quietly.ensures.lent m counts earlier (c.loop-self.invariant.lent m counts earlier lent)

pub loop-self-preserved : goal.loop-self-preserved
loop-self-preserved c =
    let a = c.loop-self.invariant.steps in
    let b = c.go_quietly.ensures.steps in
    let room : IsFull c.go_quietly.new.self → ⊥ = λ f. true≢false (sym (c.if-full.ensures.1 f)) in
    let one = steps_one c.go_quietly.new.self c.tick.new.self c.in-Done-tick.ensures.does in
    record {
      later = λ (e : c.tick.new.self.steps ≡ 0). omega (arith, one, e);
      steps = (
        a.0 + b.0 + 1,
        one_more (a.0 + b.0) c.args.self.now c.go_quietly.new.self c.tick.new.self (joined a.0 b.0 c.args.self.now c.loop-self.self
            c.go_quietly.new.self a.1 b.1) room c.in-Done-tick.ensures.does,
      );
      lent = λ m counts earlier lent. c.tick.ensures.lent m counts earlier (c.go_quietly.ensures.lent m counts earlier
          (c.loop-self.invariant.lent m counts earlier lent));
    }

pub returns-in_default-tick : goal.returns-in_default-tick
returns-in_default-tick c =
    let a = c.loop-self.invariant.steps in
    let b = c.go_quietly.ensures.steps in
    let room : IsFull c.go_quietly.new.self → ⊥ = λ f. true≢false (sym (c.if-full.ensures.1 f)) in
    record {
      does = stopped c.tick.result (a.0 + b.0) c.args.self.now c.go_quietly.new.self c.tick.new.self c.in_default-tick.not-Done
          (joined a.0 b.0 c.args.self.now c.loop-self.self c.go_quietly.new.self a.1 b.1) room c.tick.ensures.does;
      lent = λ m counts earlier lent. c.tick.ensures.lent m counts earlier (c.go_quietly.ensures.lent m counts earlier
          (c.loop-self.invariant.lent m counts earlier lent));
    }

pub returns-clause-does : goal.returns-clause-does
returns-clause-does c = (c.loop-self.invariant.steps.0, c.loop-self.invariant.steps.1, c.loop-self-test.ensures.0 refl)

pub loop-self-smaller : goal.loop-self-smaller
loop-self-smaller c =
    let before = c.loop-self.self in
    let on = c.go_quietly.new.self in
    let after = c.tick.new.self in
    let b = c.go_quietly.ensures.steps in
    let further = c.go_quietly.ensures.further in
    let kept = same_most b.0 before on b.1 in
    let same : after.most ≡ on.most = ap (λ (v : LeaseView). v.most) c.in-Done-tick.ensures.does.0 in
    let one = steps_one on after c.in-Done-tick.ensures.does in
    let room : IsFull on → ⊥ = λ f. true≢false (sym (c.if-full.ensures.1 f)) in
    omega (arith, kept, same, one, further, λ (le : on.most ≤ on.steps). room (inl le))
