use Rattle.std.proofs.Common.{◌≡◌, ◌-◌, ◌∙◌, ◌<◌, ℕ, List, ap, sym, length, slice_index_or, Some, None, arith}
use Rattle.hart_lease.specs.declared.lease_pages.Slot.{Slot}
use Rattle.hart_lease.specs.declared.lease_pages.Slot.TheVariants.{Readable}
use Rattle.hart_lease.specs.Slots.{slot_at, is_writable, base_of}
use Rattle.hart_lease.specs.Leases.{LeaseView, with_page_to_write}
use Rattle.hart_lease.specs.Runs.{IsBareLease}
use Rattle.hart_lease.proofs.pages.Given.{bare_write_kept}
use Rattle.hart_lease.proofs.lease.Lease.raise_to_write.Goals as goal

-- a lease whose page to read, which was this, is now to write
to_write : (l : LeaseView) (page : ℕ) (base : List ℕ) → IsBareLease l → page < length l.slots → page < length l.taken → slot_at l.slots page ≡ Readable base →
    IsBareLease (with_page_to_write l page base base)
to_write l page base p lt row is =
    bare_write_kept l page base lt row (ap is_writable is)
    (λ bytes e. let h : Some base ≡ Some bytes = sym (ap (λ (s : Slot). base_of s (slice_index_or l.bases page None)) is) ∙ e in cc) p

pub invariant_of-self : goal.invariant_of-self
invariant_of-self c =
    let i = c.self.inside in
    let view = c.self.view_is in
    let l : LeaseView =
    record {
      hart = i.hart;
      base = i.base;
      present = i.present;
      inputs = i.inputs.items;
      bases = i.bases.items;
      slots = i.pages;
      taken = i.taken;
      edges = i.edges.items;
      steps = i.present.count - i.base.count;
      most = i.most;
      stop = i.stop;
    } in
    let lt : c.args.page < length i.pages = omega (arith, ap (λ (l : LeaseView). length l.slots) view, c.requires.page) in
    let there : slot_at i.pages c.args.page ≡ Readable c.args.copy = ap (λ (l : LeaseView). slot_at l.slots c.args.page) view ∙ c.requires.readable in
    rw (c.raise-base.ensures.raised, c.raise-base.ensures.base, c.take.ensures, c.index.ensures.value, c.count.ensures.value)
    (to_write l c.args.page c.args.copy c.self.invariant lt (omega (arith, lt, c.self.invariant.bare.counted)) there)
