use Rattle.std.proofs.Common.{◌≡◌, ◌≤◌, ◌^◌, ◌-◌, ℕ, length, sym, ap, subst, ◌∙◌}
use Rattle.std.proofs.lemmas.List.{length-replicate}
use Rattle.ft_types.specs.Counts.{count_at}
use Rattle.ft_types.specs.Guests.{GuestParts}
use Rattle.guest_image.specs.Machine.{MachineState}
use Rattle.hart_lease.specs.Runs.{counts_of}
use Rattle.page_book.specs.Books.{BookView}
use Rattle.book_modes.specs.Recordings.{RecordingView, IsUnused}
use Rattle.primary.specs.Primaries.{no_limits}
use Rattle.primary.proofs.Greatest.{in_limits, begins_too, unused_too}
use Rattle.primary.proofs.granted.Primary.going_on.Goals as goal

pub limit_at-requires-clause-harts : goal.limit_at-requires-clause-harts
limit_at-requires-clause-harts c =
    ap length c.no_limits.ensures ∙ length-replicate c.harts.result (2 ^ 48 - 1) ∙ c.harts.ensures.value ∙ ap (λ (g : GuestParts). g.harts) c.guest-guest.ensures
    ∙ sym c.requires.harts ∙ sym (ap (λ (b : BookView RecordingView). length b.machine.harts) c.requires.begins)

pub limit_at-requires-clause-settled : goal.limit_at-requires-clause-settled
limit_at-requires-clause-settled c =
    let machine : c.args.book.machine ≡ c.args.book.start = ap (λ (b : BookView RecordingView). b.machine) c.requires.begins in
    let harts : c.args.opening.guest.harts ≡ c.harts.result = sym (c.harts.ensures.value ∙ ap (λ (g : GuestParts). g.harts) c.guest-guest.ensures) in
    subst (λ row. (hart : ℕ) → counts_of c.args.book.machine hart ≤ count_at row hart) (sym c.no_limits.ensures)
    (in_limits c.harts.result c.args.opening c.args.book.machine c.base.ensures.rules harts
    (λ hart. ap (λ (m : MachineState). counts_of m hart) machine ∙ c.requires.counts hart))

pub returns-clause-begins : goal.returns-clause-begins
returns-clause-begins c = begins_too c.args.book c.limit_at.new.self c.no_limits.result c.limit_at.ensures c.requires.begins

pub returns-clause-unused : goal.returns-clause-unused
returns-clause-unused c =
    subst (IsUnused c.limit_at.new.self.mode c.limit_at.new.self.start)
    (c.no_limits.ensures ∙ ap no_limits (c.harts.ensures.value ∙ ap (λ (g : GuestParts). g.harts) c.guest-guest.ensures))
    (unused_too c.args.book c.limit_at.new.self c.args.opening.base c.no_limits.result c.limit_at.ensures c.requires.unused)

pub returns-clause-uncut : goal.returns-clause-uncut
returns-clause-uncut c = (
  c.new-sealed.ensures.reached ∙ c.base.ensures.base,
  λ hart. c.new-sealed.ensures.marks hart ∙ ap (λ counts. record { place = 0; count = count_at counts hart }) c.base.ensures.base,
)
