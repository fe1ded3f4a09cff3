use Rattle.std.proofs.Common.{◌-◌, ◌∙◌, ◌<◌, ap, sym, length, arith}
use Rattle.hart_lease.specs.Slots.{slot_at, is_writable}
use Rattle.hart_lease.specs.Leases.{LeaseView, base_at}
use Rattle.hart_lease.proofs.pages.Given.{bare_write_kept}
use Rattle.hart_lease.proofs.lease.Lease.take_to_write.Goals as goal

pub invariant_of-self : goal.invariant_of-self
invariant_of-self c =
    let i = c.self.inside in
    let view = c.self.view_is in
    let lt : c.args.page < length i.pages = omega (arith, ap (λ (l : LeaseView). length l.slots) view, c.requires.page) in
    let row : c.args.page < length i.taken = omega (arith, lt, c.self.invariant.bare.counted) in
    rw (c.put.ensures.new, c.take.ensures, c.opened-base.ensures.part, c.opened-base.ensures.copy, c.index.ensures.value, c.count.ensures.value)
    (bare_write_kept (record {
      hart = i.hart;
      base = i.base;
      present = i.present;
      inputs = i.inputs.items;
      bases = i.bases.items;
      slots = i.pages;
      taken = i.taken;
      edges = i.edges.items;
      steps = i.present.count - i.base.count;
      most = i.most;
      stop = i.stop;
    })
    c.args.page c.args.base lt row (ap (λ (l : LeaseView). is_writable (slot_at l.slots c.args.page)) view ∙ c.requires.unwritten)
    (λ bytes e. c.requires.lent bytes (sym (ap (λ (l : LeaseView). base_at l c.args.page) view) ∙ e)) c.self.invariant)
