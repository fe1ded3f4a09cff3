-- The parts of a primary fit together all through a round.
use Rattle.std.proofs.Common.{◌≡◌, ◌≤◌, ℕ, List, length, sym, ap, subst, ◌∙◌, arith}
use Rattle.ft_types.specs.Counts.{count_at}
use Rattle.guest_image.specs.Machine.{MachineState}
use Rattle.hart_lease.specs.Runs.{counts_of}
use Rattle.book_modes.specs.Recordings.{RecordingView}
use Rattle.page_book.specs.Books.{BookView}
use Rattle.fragment_codec.specs.Rules.{OpeningParts}
use Rattle.log_pieces.specs.Pieces.{SealedView}
use Rattle.lease_rounds.specs.Running.{IsIdle}
use Rattle.lease_rounds.specs.Steps.{AreWithin}
use Rattle.lease_rounds.specs.machinery.SoFar.{HasRun}
use Rattle.term_gate.specs.TermGates.{TermGateView}
use Rattle.primary.specs.declared.granted.Primary.{Primary}
use Rattle.primary.specs.Primaries.{GoesOn}
use Rattle.primary.specs.Gating.{AreOffered, AreAllOffered, OffersMore}
use Rattle.primary.proofs.Waiting.{all_stay}
use Rattle.requests.specs.Queues.{QueueView}
use Rattle.leading.specs.Leaders.{IsSound}
use Rattle.leading.specs.Rounds.{HasGoneOn}
use Rattle.leading.proofs.Offering.{offered_later}
use Rattle.leading.proofs.Onward.{as_many, book_later, goes_further}
use Rattle.leading.proofs.Saying.{AreLater}
use Rattle.leading.proofs.Sound.{sound_gate, sound_queues, sound_book}

module _ (p q : Primary) (g : TermGateView) (queues : List QueueView) (s : IsSound p g queues) (handed : GoesOn p.book q.book)
    (rest : q ≡ record p { book = record p.book { mode = q.book.mode } }) (limits : q.book.mode.limits ≡ p.book.mode.limits) where
  machine : q.book.machine ≡ p.book.machine
  machine = ap (λ (x : Primary). x.book.machine) rest

  pub idle : IsIdle q.book
  idle = ap (λ (x : Primary). x.book.leases) rest ∙ s.idle

  pub within : AreWithin q.book
  within hart =
      let low = s.within hart in
      let same = ap (λ (m : MachineState). counts_of m hart) machine in
      let far = ap (λ (row : List ℕ). count_at row hart) limits in
      omega (arith, low, same, far)

  -- and then the book went on
  module _ (steps : ℕ) (r : Primary) (on : HasGoneOn steps q.book r.book) (first : HasRun p.book) (second : HasRun r.book) (opening : r.opening ≡ q.opening)
      (sealed : r.sealed ≡ q.sealed) where
    pub whole : GoesOn p.book r.book
    whole = goes_further p.book q.book r.book handed on.on

    pub later : AreLater p.book.machine r.book.machine
    later = book_later p.book r.book whole first second

    pub offered : AreOffered g.gate r.book.machine
    offered = offered_later g.gate p.book.machine r.book.machine later s.offered

    pub same_opening : r.opening ≡ p.opening
    same_opening = opening ∙ ap (λ (x : Primary). x.opening) rest

    pub same_sealed : r.sealed ≡ p.sealed
    same_sealed = sealed ∙ ap (λ (x : Primary). x.sealed) rest

    pub behind : (hart : ℕ) → count_at r.sealed.reached hart ≤ counts_of r.book.machine hart
    behind hart =
        let low = s.behind hart in
        let same = ap (λ (x : SealedView). count_at x.reached hart) same_sealed in
        let up = (later hart).counts in
        omega (arith, low, same, up)

    -- and its outputs came to the gate
    pub sound : (h : TermGateView) (new : List QueueView) → OffersMore g h → AreAllOffered h.gate r.book.machine → length new ≡ length queues →
        IsSound r h new
    sound h new more all many =
        sound_queues r h queues new many
        (sound_gate r g h queues (ap (λ (x : TermGateView). x.harts) more.rest) (ap (λ (x : TermGateView). x.gate.term) more.rest)
        (all_stay h.gate r.book.machine all)
        (sound_book p r g queues same_opening (as_many p.book r.book whole first second) (ap (λ (x : SealedView). length x.reached) same_sealed) on.idle
        on.within later behind s))
