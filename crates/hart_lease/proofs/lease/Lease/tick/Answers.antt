use Rattle.std.proofs.Common.{◌≡◌, ◌-◌, [], true}
use Rattle.hart_lease.proofs.steps.After.{tried_at, nothing_later, never_comes}
use Rattle.hart_lease.proofs.lease.Lease.tick.Goals as goal

pub invariant_of-self : goal.invariant_of-self
invariant_of-self c =
    let i = c.self.inside in
    let e = c.tick_running.ensures in
    (tried_at c.tick_running.result
    (record {
      hart = i.hart;
      base = i.base;
      present = i.present;
      inputs = i.inputs.items;
      bases = i.bases.items;
      slots = i.pages;
      taken = i.taken;
      edges = i.edges.items;
      steps = i.present.count - i.base.count;
      most = i.most;
      stop = i.stop;
    })
    c.args.self.now c.tick_running.new.state c.tick_running.new.pages c.steps.result [] c.self.view_is c.steps.ensures
    (nothing_later i.inputs.items c.steps.result c.if-steps-eq0.false) c.self.invariant c.requires e.done e.miss
    (never_comes (i.present.halted ≡ true) c.tick_running.result e.halted) e.memory e.hart_kept e.pages_kept).kept

pub returns-clause-does : goal.returns-clause-does
returns-clause-does c =
    let i = c.self.inside in
    let e = c.tick_running.ensures in
    (tried_at c.tick_running.result
    (record {
      hart = i.hart;
      base = i.base;
      present = i.present;
      inputs = i.inputs.items;
      bases = i.bases.items;
      slots = i.pages;
      taken = i.taken;
      edges = i.edges.items;
      steps = i.present.count - i.base.count;
      most = i.most;
      stop = i.stop;
    })
    c.args.self.now c.tick_running.new.state c.tick_running.new.pages c.steps.result [] c.self.view_is c.steps.ensures
    (nothing_later i.inputs.items c.steps.result c.if-steps-eq0.false) c.self.invariant c.requires e.done e.miss
    (never_comes (i.present.halted ≡ true) c.tick_running.result e.halted) e.memory e.hart_kept e.pages_kept).does

pub returns-clause-lent : goal.returns-clause-lent
returns-clause-lent c m counts earlier lent =
    let i = c.self.inside in
    let e = c.tick_running.ensures in
    (tried_at c.tick_running.result
    (record {
      hart = i.hart;
      base = i.base;
      present = i.present;
      inputs = i.inputs.items;
      bases = i.bases.items;
      slots = i.pages;
      taken = i.taken;
      edges = i.edges.items;
      steps = i.present.count - i.base.count;
      most = i.most;
      stop = i.stop;
    })
    c.args.self.now c.tick_running.new.state c.tick_running.new.pages c.steps.result [] c.self.view_is c.steps.ensures
    (nothing_later i.inputs.items c.steps.result c.if-steps-eq0.false) c.self.invariant c.requires e.done e.miss
    (never_comes (i.present.halted ≡ true) c.tick_running.result e.halted) e.memory e.hart_kept e.pages_kept).lent m counts earlier lent
