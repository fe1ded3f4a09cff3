use Rattle.std.proofs.Common.{◌≡◌, ◌∙◌, ap, sym, length, slice_get, Some}
use Rattle.guest_image.specs.Machine.{MachineState}
use Rattle.guest_image.proofs.MachineFacts.{place_of}
use Rattle.hart_lease.specs.Slots.{slot_at}
use Rattle.hart_lease.specs.Leases.{LeaseView}
use Rattle.hart_lease.proofs.pages.Anew.{bare_now}
use Rattle.hart_lease.proofs.lease.Lease.lay_in.Goals as goal

pub take_hart_but_outputs-requires-clause-number : goal.take_hart_but_outputs-requires-clause-number
take_hart_but_outputs-requires-clause-number c =
    let (h, is, same) = c.requires.state in
    let hart_is = ap (λ (l : LeaseView). l.hart) c.self.view_is in
    let base_is = ap (λ (l : LeaseView). l.base.number) c.self.view_is in
    c.self.invariant.bare.number ∙ (base_is ∙ (sym (ap (λ k. k.number) same) ∙ ((place_of c.args.machine.now c.args.self.now.hart h c.pages-pages.ensures.whole is).0 ∙
    sym hart_is)))

pub take_hart_but_outputs-requires-clause-harts : goal.take_hart_but_outputs-requires-clause-harts
take_hart_but_outputs-requires-clause-harts c =
    let (h, is, same) = c.requires.state in
    let base_is = ap (λ (l : LeaseView). l.base.harts) c.self.view_is in
    c.self.invariant.bare.harts ∙ (base_is ∙ (sym (ap (λ k. k.harts) same) ∙ (place_of c.args.machine.now c.args.self.now.hart h c.pages-pages.ensures.whole is).1))

pub lay_in-requires-clause-same : goal.lay_in-requires-clause-same
lay_in-requires-clause-same c =
    let (h, is, same) = c.requires.state in
    let there : slice_get c.args.machine.now.harts c.self.inside.hart ≡ Some h = rw (ap (λ (l : LeaseView). l.hart) c.self.view_is) is in
    ap (λ (l : LeaseView). length l.slots) c.self.view_is ∙
    (c.requires.as_many ∙ sym (ap (λ (m : MachineState). length m.pages) (c.take_hart_but_outputs.ensures h there)))

pub lay_in-requires-clause-unwritten : goal.lay_in-requires-clause-unwritten
lay_in-requires-clause-unwritten c = λ page bytes is.
    let (h, found, same) = c.requires.state in
    let there : slice_get c.args.machine.now.harts c.self.inside.hart ≡ Some h = rw (ap (λ (l : LeaseView). l.hart) c.self.view_is) found in
    ap (λ (m : MachineState). slice_get m.pages page) (c.take_hart_but_outputs.ensures h there) ∙
    c.requires.unwritten page bytes (sym (ap (λ (l : LeaseView). slot_at l.slots page) c.self.view_is) ∙ is)

pub invariant_of-self : goal.invariant_of-self
invariant_of-self c =
    let i = c.self.inside in
    let bare = c.self.invariant.bare in
    rw (
      c.become_but_outputs.ensures,
      c.cut_outputs-2.ensures,
      c.cut_outputs.ensures,
      c.clear.ensures.items,
      c.clear_bases.ensures,
      c.clear-2.ensures,
      c.clear-3.ensures.items,
      c.lay_in.ensures.missing,
      bare.as_many,
      bare.counted,
    )
    (bare_now i.hart (length i.pages) i.present)
