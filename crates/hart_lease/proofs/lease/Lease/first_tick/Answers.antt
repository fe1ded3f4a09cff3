use Rattle.std.proofs.Common.{◌-◌, sym}
use Rattle.hart_lease.proofs.steps.After.{tried_at}
use Rattle.hart_lease.proofs.lease.Lease.first_tick.Goals as goal

pub invariant_of-self : goal.invariant_of-self
invariant_of-self c =
    let i = c.self.inside in
    let e = c.tick.ensures in
    (tried_at c.tick.result
    (record {
      hart = i.hart;
      base = i.base;
      present = i.present;
      inputs = i.inputs.items;
      bases = i.bases.items;
      slots = i.pages;
      taken = i.taken;
      edges = i.edges.items;
      steps = i.present.count - i.base.count;
      most = i.most;
      stop = i.stop;
    })
    c.args.self.now c.tick.new.state c.tick.new.pages 0 c.as_slice.result.now c.self.view_is (sym c.requires.first)
    c.as_slice.ensures c.self.invariant c.requires.room e.done e.miss e.halted e.memory e.hart_kept e.pages_kept).kept

pub returns-clause-does : goal.returns-clause-does
returns-clause-does c =
    let i = c.self.inside in
    let e = c.tick.ensures in
    (tried_at c.tick.result
    (record {
      hart = i.hart;
      base = i.base;
      present = i.present;
      inputs = i.inputs.items;
      bases = i.bases.items;
      slots = i.pages;
      taken = i.taken;
      edges = i.edges.items;
      steps = i.present.count - i.base.count;
      most = i.most;
      stop = i.stop;
    })
    c.args.self.now c.tick.new.state c.tick.new.pages 0 c.as_slice.result.now c.self.view_is (sym c.requires.first)
    c.as_slice.ensures c.self.invariant c.requires.room e.done e.miss e.halted e.memory e.hart_kept e.pages_kept).does

pub returns-clause-lent : goal.returns-clause-lent
returns-clause-lent c m counts earlier lent =
    let i = c.self.inside in
    let e = c.tick.ensures in
    (tried_at c.tick.result
    (record {
      hart = i.hart;
      base = i.base;
      present = i.present;
      inputs = i.inputs.items;
      bases = i.bases.items;
      slots = i.pages;
      taken = i.taken;
      edges = i.edges.items;
      steps = i.present.count - i.base.count;
      most = i.most;
      stop = i.stop;
    })
    c.args.self.now c.tick.new.state c.tick.new.pages 0 c.as_slice.result.now c.self.view_is (sym c.requires.first)
    c.as_slice.ensures c.self.invariant c.requires.room e.done e.miss e.halted e.memory e.hart_kept e.pages_kept).lent m counts earlier lent
