-- A primary that goes live, and its gate.
use Rattle.std.proofs.Common.{◌≡◌, ◌≢◌, ◌↔◌, ℕ, ◌+◌, ◌-◌, ◌<◌, ◌≤◌, List, map, length, sym, ap, subst, ◌∙◌, refl, arith}
use Rattle.std.specs.List.{Any}
use Rattle.ft_types.specs.Counts.{count_at}
use Rattle.ft_types.specs.declared.quorum.Quorum.{Quorum}
use Rattle.guest_image.specs.Image.{ImageContents, guest_of}
use Rattle.guest_image.specs.Machine.{MachineState}
use Rattle.hart_lease.specs.Runs.{counts_of}
use Rattle.page_book.specs.Books.{BookView}
use Rattle.book_modes.specs.Recordings.{RecordingView}
use Rattle.fragment_codec.specs.Rules.{OpeningParts}
use Rattle.hart_replay.specs.Images.{GuestHistory}
use Rattle.hart_replay.specs.declared.fault.ReplayFault.TheVariants.{OtherGuest}
use Rattle.term_gate.specs.TermGates.{TermGateView}
use Rattle.go_live.specs.declared.fault.LiveFault.TheVariants.{TooFewStores, TermNotNew, Replay, Memory}
use Rattle.go_live.specs.Quorums.{distinct_below, AreEnough, MostOf, IsOld}
use Rattle.go_live.specs.Lives.{LeadNowhere}
use Rattle.go_live.specs.Histories.{AreOfHistory}
use Rattle.go_live.proofs.Beginnings.{at_counts}
use Rattle.go_live.proofs.Places.{has_harts}
use Rattle.primary.specs.declared.granted.Primary.{Primary}
use Rattle.primary.proofs.Greatest.{in_limits}
use Rattle.primary.proofs.Waiting.{all_stay}
use Rattle.requests.specs.Queues.{QueueView}
use Rattle.fenced_live.specs.declared.given.Given.{Given}
use Rattle.fenced_live.specs.Given.{IfReplay}
use Rattle.fenced_live.specs.declared.fault.GivenFault.{GivenFault}
use Rattle.fenced_live.specs.declared.fault.GivenFault.TheVariants.{OtherTerm, Live}
use Rattle.leading.specs.Beginning.{GoesLiveGiven, CannotBegin, stores_in, givers_in}
use Rattle.leading.specs.Leaders.{IsSound, AreTidy}
use Rattle.leading.proofs.Outset.{outcome_tidy}

-- what going live says of a fault, where those are enough for the one need who are enough for the other and most
pub cannot : (image : ImageContents) (quorum : Quorum) (keepers need fewer term : ℕ) (given : List Given) (fault : GivenFault) →
    keepers ≡ quorum.keepers → need ≡ quorum.need →
    (AreEnough keepers fewer (givers_in given) ↔ (AreEnough keepers need (givers_in given) × MostOf keepers (givers_in given))) →
    (fault ≡ OtherTerm → Any (λ g. g.term ≢ term) given) →
    (fault ≡ Live TooFewStores → distinct_below keepers (map (λ g. g.keeper) given) < keepers - fewer + 1) →
    (fault ≡ Live TermNotNew → AreEnough keepers fewer (map (λ g. g.keeper) given) × IsOld (map (λ g. g.store.now) given) term) →
    (fault ≡ Live (Replay OtherGuest) → Any (λ s. s.guest ≢ guest_of image) (map (λ g. g.store.now) given)) →
    IfReplay fault (λ f. f ≢ OtherGuest → LeadNowhere image (map (λ g. g.store.now) given) f) →
    IfReplay fault (λ f. (h : GuestHistory) → AreOfHistory image h (map (λ g. g.store.now) given) → f ≡ OtherGuest) →
    CannotBegin image quorum term given fault
cannot image quorum keepers need fewer term given OtherTerm k n both other few old foreign nowhere ends = other refl
cannot image quorum keepers need fewer term given (Live TooFewStores) k n both other few old foreign nowhere ends = λ holds.
    let less = few refl in
    let enough = subst (λ x. AreEnough x need (givers_in given)) (sym k) (subst (λ x. AreEnough quorum.keepers x (givers_in given)) (sym n) holds.0) in
    let most = subst (λ x. MostOf x (givers_in given)) (sym k) holds.1 in
    let many : keepers - fewer + 1 ≤ distinct_below keepers (givers_in given) = both.1 (enough, most) in
    omega (arith, less, many)
cannot image quorum keepers need fewer term given (Live TermNotNew) k n both other few old foreign nowhere ends =
    let (enough, is) = old refl in
    let (all, most) = both.0 enough in (
      subst (λ x. AreEnough x quorum.need (givers_in given)) k (subst (λ x. AreEnough keepers x (givers_in given)) n all),
      subst (λ x. MostOf x (givers_in given)) k most,
      is,
    )
cannot image quorum keepers need fewer term given (Live (Replay fault)) k n both other few old foreign nowhere ends = (
  λ same. foreign (ap (λ f. Live (Replay f)) same),
  nowhere,
  ends,
)
cannot image quorum keepers need fewer term given (Live Memory) k n both other few old foreign nowhere ends = tt

-- the parts fit together as it begins
pub begins_sound : (image : ImageContents) (quorum : Quorum) (term : ℕ) (given : List Given) (p : Primary) (g : TermGateView) (queues : List QueueView) →
    GoesLiveGiven image quorum term given p g → length queues ≡ length p.book.machine.harts → IsSound p g queues
begins_sound image quorum term given p g queues goes many =
    let live = goes.live in
    let rules = goes.begins.rules in
    let machine : p.book.machine ≡ p.book.start = ap (λ (b : BookView RecordingView). b.machine) live.begins in
    let as_many : length p.book.machine.harts ≡ image.harts =
    ap (λ (m : MachineState). length m.harts) machine ∙ has_harts image live.at.replayed.legs p.book.start live.at.replayed.outcome in
    let guest = ap (λ (o : OpeningParts). o.guest.harts) live.at.opened in
    let counts : (hart : ℕ) → counts_of p.book.machine hart ≡ count_at p.opening.base hart =
    (λ hart. ap (λ (m : MachineState). counts_of m hart) machine ∙ at_counts image (stores_in given) term p.book.start p.opening live.marks live.at hart) in
    record {
      idle = ap (λ (b : BookView RecordingView). b.leases) live.begins;
      within = λ hart.
          subst (λ row. counts_of p.book.machine hart ≤ count_at row hart) (sym live.unused.limits_are)
          (in_limits image.harts p.opening p.book.machine rules guest counts hart);
      harts = as_many ∙ sym live.gate.of_harts;
      guest = guest ∙ sym live.gate.of_harts;
      reached = ap length live.uncut.0 ∙ rules.base ∙ guest ∙ sym live.gate.of_harts;
      behind = λ hart. let same = ap (λ row. count_at row hart) live.uncut.0 in let is = counts hart in omega (arith, same, is);
      tidy = subst AreTidy (sym machine) (outcome_tidy image live.at.replayed.legs p.book.start live.at.replayed.outcome);
      offered = all_stay g.gate p.book.machine live.offered;
      term = live.gate.of_term ∙ sym (ap (λ (o : OpeningParts). o.term) live.at.opened);
      many = many ∙ as_many ∙ sym live.gate.of_harts;
    }
