use Rattle.std.proofs.Common.{◌-◌, ◌∙◌, ◌<◌, ap, length, arith}
use Rattle.hart_lease.specs.Slots.{slot_at}
use Rattle.hart_lease.specs.Leases.{LeaseView}
use Rattle.hart_lease.proofs.pages.Given.{bare_read_kept}
use Rattle.hart_lease.proofs.lease.Lease.take_to_read.Goals as goal

pub invariant_of-self : goal.invariant_of-self
invariant_of-self c =
    let i = c.self.inside in
    let view = c.self.view_is in
    let lt : c.args.page < length i.pages = omega (arith, ap (λ (l : LeaseView). length l.slots) view, c.requires.page) in
    let row : c.args.page < length i.taken = omega (arith, lt, c.self.invariant.bare.counted) in
    rw (c.put.ensures.new, c.take.ensures, c.count.ensures.value)
    (bare_read_kept (record {
      hart = i.hart;
      base = i.base;
      present = i.present;
      inputs = i.inputs.items;
      bases = i.bases.items;
      slots = i.pages;
      taken = i.taken;
      edges = i.edges.items;
      steps = i.present.count - i.base.count;
      most = i.most;
      stop = i.stop;
    })
    c.args.page c.args.here lt row (ap (λ (l : LeaseView). slot_at l.slots c.args.page) view ∙ c.requires.missing) c.self.invariant)
