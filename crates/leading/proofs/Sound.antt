-- The parts of a primary that leads still fit together.
use Rattle.std.proofs.Common.{◌≡◌, ◌≤◌, ℕ, List, length, sym, ap, subst, ◌∙◌, arith}
use Rattle.ft_types.specs.Counts.{count_at}
use Rattle.guest_image.specs.Machine.{MachineState}
use Rattle.hart_lease.specs.Runs.{counts_of}
use Rattle.book_modes.specs.Recordings.{RecordingView}
use Rattle.fragment_codec.specs.declared.frame.Frame.{Frame}
use Rattle.log_pieces.specs.Pieces.{IsCut, book_log}
use Rattle.page_book.specs.Books.{BookView}
use Rattle.lease_rounds.specs.Running.{IsIdle}
use Rattle.lease_rounds.specs.Steps.{AreWithin}
use Rattle.term_gate.specs.TermGates.{TermGateView}
use Rattle.primary.specs.declared.granted.Primary.{Primary}
use Rattle.primary.specs.Gating.{AreOffered}
use Rattle.requests.specs.Queues.{QueueView}
use Rattle.leading.specs.Leaders.{IsSound, AreTidy}
use Rattle.leading.proofs.Offering.{offered_later}
use Rattle.leading.proofs.Saying.{AreLater, still_tidy}
use Rattle.leading.proofs.Within.{cut_within}

-- with another gate of its term
pub sound_gate : (p : Primary) (g h : TermGateView) (queues : List QueueView) → h.harts ≡ g.harts → h.gate.term ≡ g.gate.term →
    AreOffered h.gate p.book.machine → IsSound p g queues → IsSound p h queues
sound_gate p g h queues harts term offered s = record {
  idle = s.idle;
  within = s.within;
  harts = s.harts ∙ sym harts;
  guest = s.guest ∙ sym harts;
  reached = s.reached ∙ sym harts;
  behind = s.behind;
  tidy = s.tidy;
  offered = offered;
  term = term ∙ s.term;
  many = s.many ∙ sym harts;
}

-- with other queues, and as many
pub sound_queues : (p : Primary) (g : TermGateView) (old new : List QueueView) → length new ≡ length old → IsSound p g old → IsSound p g new
sound_queues p g old new many s = record {
  idle = s.idle;
  within = s.within;
  harts = s.harts;
  guest = s.guest;
  reached = s.reached;
  behind = s.behind;
  tidy = s.tidy;
  offered = s.offered;
  term = s.term;
  many = many ∙ s.many;
}

-- with a book that went on, and what is cut of it
pub sound_book : (p q : Primary) (g : TermGateView) (queues : List QueueView) → q.opening ≡ p.opening →
    length q.book.machine.harts ≡ length p.book.machine.harts → length q.sealed.reached ≡ length p.sealed.reached → IsIdle q.book → AreWithin q.book →
    AreLater p.book.machine q.book.machine → ((hart : ℕ) → count_at q.sealed.reached hart ≤ counts_of q.book.machine hart) → IsSound p g queues →
    IsSound q g queues
sound_book p q g queues opening harts reached idle within later behind s = record {
  idle = idle;
  within = within;
  harts = harts ∙ s.harts;
  guest = ap (λ o. o.guest.harts) opening ∙ s.guest;
  reached = reached ∙ s.reached;
  behind = behind;
  tidy = still_tidy p.book.machine q.book.machine later s.tidy;
  offered = offered_later g.gate p.book.machine q.book.machine later s.offered;
  term = s.term ∙ ap (λ o. o.term) (sym opening);
  many = s.many;
}

-- with a book whose machine, leases and limits are as they were
pub sound_notes : (p : Primary) (c : BookView RecordingView) (g : TermGateView) (queues : List QueueView) →
    c ≡ record p.book { mode = c.mode } → c.mode.limits ≡ p.book.mode.limits → IsSound p g queues → IsSound (record p { book = c }) g queues
sound_notes p c g queues book limits s =
    let machine : c.machine ≡ p.book.machine = ap (λ (x : BookView RecordingView). x.machine) book in
    let leases = ap (λ (x : BookView RecordingView). x.leases) book in
    record {
      idle = leases ∙ s.idle;
      within = λ hart.
          let low = s.within hart in
          let same = ap (λ (m : MachineState). counts_of m hart) machine in
          let far = ap (λ (row : List ℕ). count_at row hart) limits in
          omega (arith, low, same, far);
      harts = ap (λ (m : MachineState). length m.harts) machine ∙ s.harts;
      guest = s.guest;
      reached = s.reached;
      behind = λ hart. let low = s.behind hart in let same = ap (λ (m : MachineState). counts_of m hart) machine in omega (arith, low, same);
      tidy = subst AreTidy (sym machine) s.tidy;
      offered = subst (AreOffered g.gate) (sym machine) s.offered;
      term = s.term;
      many = s.many;
    }

-- with what is new of its log cut
pub sound_sealed : (p q : Primary) (g : TermGateView) (queues : List QueueView) (frames : List Frame) → q ≡ record p { sealed = q.sealed } →
    IsCut (book_log p.opening.guest p.opening.term p.book) p.opening.guest.harts p.sealed frames q.sealed → IsSound p g queues → IsSound q g queues
sound_sealed p q g queues frames rest cut s =
    subst (λ (x : Primary). IsSound x g queues) (sym rest) (record {
      idle = s.idle;
      within = s.within;
      harts = s.harts;
      guest = s.guest;
      reached = cut.same_harts ∙ s.reached;
      behind = cut_within p.opening.guest p.opening.term p.book p.sealed frames q.sealed s.behind cut;
      tidy = s.tidy;
      offered = s.offered;
      term = s.term;
      many = s.many;
    })
