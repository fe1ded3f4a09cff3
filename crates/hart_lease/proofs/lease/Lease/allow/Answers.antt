use Rattle.std.proofs.Common.{◌-◌, subst, sym}
use Rattle.hart_lease.specs.Leases.{LeaseView, IsLent, whole}
use Rattle.hart_lease.proofs.steps.Longer.{bare_for, lent_for}
use Rattle.hart_lease.proofs.lease.Lease.allow.Goals as goal

pub invariant_of-self : goal.invariant_of-self
invariant_of-self c =
    let i = c.self.inside in
    bare_for (record {
      hart = i.hart;
      base = i.base;
      present = i.present;
      inputs = i.inputs.items;
      bases = i.bases.items;
      slots = i.pages;
      taken = i.taken;
      edges = i.edges.items;
      steps = i.present.count - i.base.count;
      most = i.most;
      stop = i.stop;
    })
    c.args.steps c.self.invariant

pub returns-clause-lent : goal.returns-clause-lent
returns-clause-lent c m taken earlier lent =
    let i = c.self.inside in
    lent_for (record {
      hart = i.hart;
      base = i.base;
      present = i.present;
      inputs = i.inputs.items;
      bases = i.bases.items;
      slots = i.pages;
      taken = i.taken;
      edges = i.edges.items;
      steps = i.present.count - i.base.count;
      most = i.most;
      stop = i.stop;
    })
    c.args.steps m taken earlier (subst (λ (v : LeaseView). IsLent m taken (whole earlier v)) (sym c.self.view_is) lent)
