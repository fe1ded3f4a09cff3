use Rattle.std.proofs.Common.{◌≡◌, ◌∙◌, ap, sym, take, slice_get, slice_index_or, length, ℕ, List, Option, None, Some}
use Rattle.rv32_hart.specs.Hart.{Hart}
use Rattle.guest_image.specs.Machine.{MachineState, with_hart}
use Rattle.hart_lease.specs.Leases.{LeaseView, outputs_of, whole_in, laid, IsLentBy}
use Rattle.hart_lease.specs.OpenLeases.{OpenView, open_at}
use Rattle.hart_lease.specs.declared.lease_pages.Slot.{Slot}
use Rattle.hart_lease.specs.declared.lease_pages.Slot.TheVariants.{Readable}
use Rattle.hart_lease.specs.Slots.{slot_at, base_of}
use Rattle.hart_lease.proofs.pages.Laid.{readable_there}
use Rattle.hart_lease.proofs.pages.Anew.{fresh_again}
use Rattle.book_modes.specs.Modes.{IsSettling, KeepsSettling, SettlesHeard}
use Rattle.hart_lease.proofs.steps.EarlierOutputs.{longer, longer_there, cut_back, laid_longer, base_bare}
use Rattle.page_book.proofs.Kept.{settled_kept}
use Rattle.hart_lease.proofs.journals.GoingOn.{stands_ours}
use Rattle.page_book.proofs.book.Book.settle_own.Goals as goal

-- where its hart stands, the machine has its outputs with the lease's behind them
made_longer : (m new : MachineState) (l : LeaseView) (i : ℕ) (h : Hart) (more : List (ℕ × ℕ)) → i ≡ l.hart → more ≡ l.present.outputs →
    new ≡ with_hart m i (longer h more) → new ≡ with_hart m l.hart (longer h l.present.outputs)
made_longer m new l i h more at outs is = rw (← at, ← outs) is

-- so it is as it was, once they are cut off again
made_back : (m new back : MachineState) (l : LeaseView) (i : ℕ) (h : Hart) (more outs : List (ℕ × ℕ)) → i ≡ l.hart → more ≡ l.present.outputs →
    outs ≡ h.outputs →
    slice_get m.harts i ≡ Some h → new ≡ with_hart m i (longer h more) →
    ((k : Hart) → slice_get new.harts i ≡ Some k → back ≡ with_hart new i (record k { outputs = take (length outs) k.outputs })) → back ≡ m
made_back m new back l i h more outs at all own is new_is cut =
    let there : slice_get new.harts i ≡ Some (longer h more) = rw new_is (longer_there m i h more is) in
    cut (longer h more) there ∙ rw (new_is, own) (cut_back m i h more is)

-- a page that the book's own lease has to read is the machine's
read_ours : (o : Option OpenView) (m : MachineState) (w : LeaseView) (page : ℕ) (bytes : List ℕ) → IsLentBy o m w → slot_at w.slots page ≡ Readable bytes →
    slice_get m.pages page ≡ Some bytes
read_ours None m w page bytes ours is = absurd ours
read_ours (Some lent) m w page bytes ours is =
    ours.is_lent.pages page (readable_there w.slots page bytes is) bytes (ap (λ (s : Slot). base_of s (slice_index_or w.bases page None)) is)

pub settle-requires : goal.settle-requires
settle-requires g c =
    let d : c.deref-body.result.now ≡ c.lease.inside.own.value = c.deref-body.ensures in
    let bare = rw d at c.hart-hart.ensures.kept in
    let i = c.self.inside in
    let l = c.lease.inside.own.value in
    let ours : IsLentBy (open_at i.leases.value l.hart) i.machine (whole_in i.machine l) = rw (← c.self.view_is, ← c.lease.view_is) at c.requires in
    let settling : IsSettling (g.M.Mode.keeps i.mode) (whole_in i.machine l) =
    record {
      start = i.start;
      machine = i.machine;
      journal = i.journal.items;
      leases = i.leases.value;
      is_lease = bare.with_any (outputs_of (slice_get i.machine.harts l.hart));
      is_lent = ours;
      counted = c.self.invariant.counted;
      kept = c.self.invariant.keeps;
    } in
    rw d (outputs_of (slice_get i.machine.harts l.hart), settling)

pub invariant_of-self-in-Err-settle : goal.invariant_of-self-in-Err-settle
invariant_of-self-in-Err-settle g c =
    let d : c.deref-body.result.now ≡ c.lease.inside.own.value = c.deref-body.ensures in
    let hart_is = c.hart-hart.ensures.value ∙ ap (λ (v : LeaseView). v.hart) d in
    let outs_are = c.outputs.ensures ∙ ap (λ (v : LeaseView). v.present.outputs) d in
    let i = c.self.inside in
    let back = made_back i.machine c.add_outputs.new.self c.cut_outputs.new.self c.lease.inside.own.value c.hart-hart.result c.hart.result.now c.outputs.result.now
    c.outputs-before.result.now hart_is outs_are c.outputs-before.ensures c.hart.ensures
    (c.in-Ok-add_outputs.ensures.added c.hart.result.now c.hart.ensures)
    c.cut_outputs.ensures in
    rw (back, c.in-Err-settle.ensures.err, c.reserve.ensures.items) c.self.invariant

pub returns-in-Err-settle-clause-kept : goal.returns-in-Err-settle-clause-kept
returns-in-Err-settle-clause-kept g c =
    let d : c.deref-body.result.now ≡ c.lease.inside.own.value = c.deref-body.ensures in
    let hart_is = c.hart-hart.ensures.value ∙ ap (λ (v : LeaseView). v.hart) d in
    let outs_are = c.outputs.ensures ∙ ap (λ (v : LeaseView). v.present.outputs) d in
    let i = c.self.inside in
    let back = made_back i.machine c.add_outputs.new.self c.cut_outputs.new.self c.lease.inside.own.value c.hart-hart.result c.hart.result.now c.outputs.result.now
    c.outputs-before.result.now hart_is outs_are c.outputs-before.ensures c.hart.ensures
    (c.in-Ok-add_outputs.ensures.added c.hart.result.now c.hart.ensures)
    c.cut_outputs.ensures in
    rw (back, c.in-Err-settle.ensures.err, c.reserve.ensures.items) c.self.view_is

pub lay_in-requires-clause-state : goal.lay_in-requires-clause-state
lay_in-requires-clause-state g c =
    let d : c.deref-body.result.now ≡ c.lease.inside.own.value = c.deref-body.ensures in
    let hart_is = c.hart-hart.ensures.value ∙ ap (λ (v : LeaseView). v.hart) d in
    let outs_are = c.outputs.ensures ∙ ap (λ (v : LeaseView). v.present.outputs) d in
    let m = c.self.inside.machine in
    let l = c.lease.inside.own.value in
    let h = c.hart.result.now in
    let ours : IsLentBy (open_at c.self.inside.leases.value l.hart) m (whole_in m l) = rw (← c.self.view_is, ← c.lease.view_is) at c.requires in
    let there : slice_get m.harts l.hart ≡ Some h = rw (← hart_is) c.hart.ensures in
    let new = made_longer m c.add_outputs.new.self l c.hart-hart.result h c.outputs.result.now hart_is outs_are
    (c.in-Ok-add_outputs.ensures.added h c.hart.ensures) in
    rw c.deref_mut.ensures.value (
      longer h l.present.outputs,
      rw new (longer_there m l.hart h l.present.outputs there),
      base_bare m l h there (stands_ours (open_at c.self.inside.leases.value l.hart) m (whole_in m l) ours),
    )

pub lay_in-requires-clause-unwritten : goal.lay_in-requires-clause-unwritten
lay_in-requires-clause-unwritten g c = λ page bytes is.
    let d : c.deref-body.result.now ≡ c.lease.inside.own.value = c.deref-body.ensures in
    let hart_is = c.hart-hart.ensures.value ∙ ap (λ (v : LeaseView). v.hart) d in
    let outs_are = c.outputs.ensures ∙ ap (λ (v : LeaseView). v.present.outputs) d in
    let m = c.self.inside.machine in
    let l = c.lease.inside.own.value in
    let h = c.hart.result.now in
    let ours : IsLentBy (open_at c.self.inside.leases.value l.hart) m (whole_in m l) = rw (← c.self.view_is, ← c.lease.view_is) at c.requires in
    let new = made_longer m c.add_outputs.new.self l c.hart-hart.result h c.outputs.result.now hart_is outs_are
    (c.in-Ok-add_outputs.ensures.added h c.hart.ensures) in
    ap (λ (w : MachineState). slice_get w.pages page) new ∙ read_ours (open_at c.self.inside.leases.value l.hart) m (whole_in m l) page bytes ours (rw c.deref_mut.ensures.value at is)

pub keep-requires : goal.keep-requires
keep-requires g c =
    let l = c.deref_mut.result.now in
    fresh_again c.lay_in.new.self l.hart (length l.slots) l.present c.lay_in.ensures.idle

pub returns-clause-machine : goal.returns-clause-machine
returns-clause-machine g c =
    let d : c.deref-body.result.now ≡ c.lease.inside.own.value = c.deref-body.ensures in
    let hart_is = c.hart-hart.ensures.value ∙ ap (λ (v : LeaseView). v.hart) d in
    let outs_are = c.outputs.ensures ∙ ap (λ (v : LeaseView). v.present.outputs) d in
    let back_is = rw c.deref_mut.ensures.value at c.lay_in.ensures.machine in
    let m = c.self.inside.machine in
    let l = c.lease.inside.own.value in
    let h = c.hart.result.now in
    let there : slice_get m.harts l.hart ≡ Some h = rw (← hart_is) c.hart.ensures in
    let new = made_longer m c.add_outputs.new.self l c.hart-hart.result h c.outputs.result.now hart_is outs_are
    (c.in-Ok-add_outputs.ensures.added h c.hart.ensures) in
    let taken = back_is (longer h l.present.outputs) (rw new (longer_there m l.hart h l.present.outputs there)) in
    rw (← c.self.view_is, ← c.lease.view_is) (taken ∙ rw new (laid_longer m l h there))

pub invariant_of-self-2 : goal.invariant_of-self-2
invariant_of-self-2 g c =
    let d : c.deref-body.result.now ≡ c.lease.inside.own.value = c.deref-body.ensures in
    let hart_is = c.hart-hart.ensures.value ∙ ap (λ (v : LeaseView). v.hart) d in
    let outs_are = c.outputs.ensures ∙ ap (λ (v : LeaseView). v.present.outputs) d in
    let bare = rw d at c.hart-hart.ensures.kept in
    let back_is = rw c.deref_mut.ensures.value at c.lay_in.ensures.machine in
    let i = c.self.inside in
    let l = c.lease.inside.own.value in
    let h = c.hart.result.now in
    let earlier = outputs_of (slice_get i.machine.harts l.hart) in
    let w = whole_in i.machine l in
    let ours : IsLentBy (open_at i.leases.value l.hart) i.machine w = rw (← c.self.view_is, ← c.lease.view_is) at c.requires in
    let there : slice_get i.machine.harts l.hart ≡ Some h = rw (← hart_is) c.hart.ensures in
    let new = made_longer i.machine c.add_outputs.new.self l c.hart-hart.result h c.outputs.result.now hart_is outs_are
    (c.in-Ok-add_outputs.ensures.added h c.hart.ensures) in
    let taken = back_is (longer h l.present.outputs) (rw new (longer_there i.machine l.hart h l.present.outputs there)) in
    let laid_is : c.lay_in.new.machine ≡ laid i.machine w = taken ∙ rw new (laid_longer i.machine l h there) in
    let settling : IsSettling (g.M.Mode.keeps i.mode) w =
    record {
      start = i.start;
      machine = i.machine;
      journal = i.journal.items;
      leases = i.leases.value;
      is_lease = bare.with_any earlier;
      is_lent = ours;
      counted = c.self.invariant.counted;
      kept = c.self.invariant.keeps;
    } in
    let kept : KeepsSettling (g.M.Mode.keeps i.mode) (g.M.Mode.keeps c.settle.new.self) w = (rw d at c.in-Ok-settle.ensures.kept) earlier in
    let hears : SettlesHeard (g.M.Mode.keeps i.mode) (g.M.Mode.heard i.mode) (g.M.Mode.heard c.settle.new.self) w = (rw d at c.in-Ok-settle.ensures.heard) earlier in
    rw (
      laid_is,
      c.add_stretch.ensures,
      c.reserve.ensures.items,
      c.steps-steps.ensures,
      d,
      c.index.ensures.value,
      c.deref_mut-2.ensures.value,
      hart_is,
      c.settle.ensures.stops,
      c.settle.ensures.obeyed,
    )
    (settled_kept i.start i.machine i.journal.items i.leases.value (g.M.Mode.stops i.mode) (g.M.Mode.obeyed i.mode) (g.M.Mode.heard i.mode)
    (g.M.Mode.heard c.settle.new.self) _ _ w c.self.invariant (bare.with_any earlier) ours (hears.hears settling) (kept settling))
