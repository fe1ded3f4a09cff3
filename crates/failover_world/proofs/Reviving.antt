-- What going live gives, and why it is refused, in the world.
use Rattle.std.proofs.Common.{◌≡◌, ◌≢◌, ◌⊎◌, inl, inr, ℕ, ◌+◌, ◌-◌, ◌<◌, ◌≤◌, true, false, List, [], ◌∷◌, ◌++◌, length, map, replicate, refl, sym, ap, subst, ◌∙◌, arith}
use Rattle.std.specs.Prelude.{All}
use Rattle.std.specs.List.{Any}
use Rattle.std.proofs.lemmas.List.{length-replicate}
use Rattle.ft_types.specs.Counts.{count_at}
use Rattle.guest_image.specs.Image.{guest_of}
use Rattle.guest_image.specs.Machine.{MachineState}
use Rattle.hart_lease.specs.Runs.{counts_of}
use Rattle.fragment_codec.specs.declared.frame.Frame.{Frame}
use Rattle.fragment_codec.specs.declared.frame.Frame.TheVariants.{Opening}
use Rattle.ft_types.specs.Guests.{IsGuest}
use Rattle.fragment_codec.specs.Rules.{OpeningParts}
use Rattle.log_join.specs.Stores.{StoreView}
use Rattle.page_book.specs.Books.{BookView}
use Rattle.book_modes.specs.Recordings.{RecordingView}
use Rattle.hart_replay.specs.Images.{GuestHistory}
use Rattle.hart_replay.specs.declared.fault.ReplayFault.TheVariants.{OtherGuest}
use Rattle.output_gate.specs.Gates.{LineView, fresh_line, noted_at, line_of}
use Rattle.term_gate.specs.TermGates.{TermGateView, IsNewGate}
use Rattle.go_live.specs.declared.fault.LiveFault.{LiveFault}
use Rattle.go_live.specs.declared.fault.LiveFault.TheVariants.{TooFewStores, TermNotNew, Replay, Memory as NoLive}
use Rattle.go_live.specs.Faults.{IfReplay}
use Rattle.go_live.specs.Quorums.{distinct_below, AreEnough, IsNew, IsOld}
use Rattle.primary.proofs.Greatest.{in_limits}
use Rattle.go_live.specs.Histories.{AreOfHistory}
use Rattle.primary.specs.declared.granted.Primary.{Primary}
use Rattle.failover_world.specs.Worlds.{WorldView, term_of}
use Rattle.primary.proofs.NewGates.{none_passed}
use Rattle.primary.proofs.Waiting.{all_stay}
use Rattle.failover_world.specs.Happenings.{stores_of, GoesLiveFrom}
use Rattle.failover_world.specs.Refusals.{CannotGoLive}
use Rattle.failover_world.specs.machinery.Tied.{history, AreParts, IsTied, IsWorld}
use Rattle.go_live.proofs.Places.{has_harts}
use Rattle.failover_world.proofs.Guests.{store_guest}
use Rattle.failover_world.proofs.Chosen.{each_named, honest}
use Rattle.failover_world.proofs.Granting.{granted_world, granted}

-- ---- the term

-- a term that is not later is asked for as 0
abbrev pub IsAsked : WorldView → ℕ → ℕ → Type 0
IsAsked v term asked = ((asked ≡ term) × (term_of v < term)) ⊎ ((asked ≡ 0) × (term ≤ term_of v))

pub record IsGiven (v : WorldView) (term asked : ℕ) (stores : List StoreView) : Type 0 where
  pub same : asked ≡ term
  pub later : term_of v < term
  pub new : IsNew stores term

pub given : (v : WorldView) (term asked : ℕ) (stores : List StoreView) → IsAsked v term asked → IsNew stores asked → IsGiven v term asked stores
given v term asked stores (inl (same, later)) new = record { same = same; later = later; new = subst (IsNew stores) same new }
given v term asked stores (inr (none, old)) new = let some = new.granted in absurd (omega (arith, some, none))

-- ---- refusals

not_any : (Q : StoreView → Type 0) (stores : List StoreView) → All Q stores → Any (λ s. Q s → ⊥) stores → ⊥
not_any Q stores all (k, s, within, is, not) = not (subst Q is (all k s within))

module _ (v : WorldView) (is : IsTied v) (guest : IsGuest (guest_of v.image)) where
  pub own : (named : List ℕ) → All (λ s. s.guest ≡ guest_of v.image) (map (λ s. s.1) (stores_of v.stores named))
  own named = each_named (λ s. s.guest ≡ guest_of v.image) v.stores 0 named (λ k s at. store_guest v is guest k s at)

  pub cannot : (term asked : ℕ) (named keepers : List ℕ) (stores : List StoreView) (fault : LiveFault) →
      keepers ≡ map (λ s. s.0) (stores_of v.stores named) → stores ≡ map (λ s. s.1) (stores_of v.stores named) → IsAsked v term asked →
      (fault ≡ TooFewStores → distinct_below v.keepers keepers < v.keepers - v.need + 1) →
      (fault ≡ TermNotNew → AreEnough v.keepers v.need keepers × IsOld stores asked) →
      (fault ≡ Replay OtherGuest → Any (λ s. s.guest ≢ guest_of v.image) stores) →
      IfReplay fault (λ f. (h : GuestHistory) → AreOfHistory v.image h stores → f ≡ OtherGuest) → fault ≢ NoLive → CannotGoLive v term named fault
  cannot term asked named keepers stores TooFewStores are_keepers are asks few old other ends known = λ enough.
      let less = few refl in
      let many : v.keepers - v.need + 1 ≤ distinct_below v.keepers keepers = subst (AreEnough v.keepers v.need) (sym are_keepers) enough in
      omega (arith, less, many)
  cannot term asked named keepers stores TermNotNew are_keepers are asks few old other ends known = (
    subst (AreEnough v.keepers v.need) are_keepers (old refl).0,
    elim asks [
      | inl (same, later) ↦ inr (subst (λ n. IsOld (map (λ s. s.1) (stores_of v.stores named)) n) same (subst (λ xs. IsOld xs asked) are (old refl).1))
      | inr (none, earlier) ↦ inl earlier
    ],
  )
  cannot term asked named keepers stores (Replay fault) are_keepers are asks few old other ends known =
      let same : fault ≡ OtherGuest = ends (history is.terms) (subst (AreOfHistory v.image (history is.terms)) (sym are) (honest v is named)) in
      not_any (λ s. s.guest ≡ guest_of v.image) (map (λ s. s.1) (stores_of v.stores named)) (own named)
      (subst (Any (λ s. s.guest ≢ guest_of v.image)) are (other (ap Replay same)))
  cannot term asked named keepers stores NoLive are_keepers are asks few old other ends known = absurd (known refl)

-- ---- the gate

abbrev no_acks : ℕ → ℕ → List (List ℕ)
no_acks keepers harts = replicate keepers (replicate harts 0)

-- a gate with no marks to which nothing was offered
pub unmarked : (g : TermGateView) (keepers need harts n : ℕ) (zero : List ℕ) → n ≡ harts → zero ≡ [] → g.harts ≡ n →
    (g.gate.term ≡ 1) × (g.gate.keepers ≡ keepers) × (g.gate.need ≡ need) → g.acked ≡ no_acks keepers n →
    ((keeper hart : ℕ) → noted_at g.gate keeper hart ≡ 0) → ((hart : ℕ) → line_of g.gate hart ≡ fresh_line (count_at zero hart)) →
    IsNewGate g 1 keepers need harts []
unmarked g keepers need harts n zero same none of_harts parts acked noted lines =
    record {
      of_harts = of_harts ∙ same;
      of_term = parts.0;
      of_keepers = parts.1;
      of_need = parts.2;
      acked = acked ∙ ap (no_acks keepers) same;
      noted = noted;
      gone = λ hart. ap (λ (l : LineView). l.gone) (lines hart);
      marked = λ hart. ap (λ (l : LineView). l.mark) (lines hart) ∙ ap (λ (row : List ℕ). count_at row hart) none;
      passed = none_passed g.gate (count_at zero) lines;
    }

-- ---- the parts of the new world

pub with_primary : (v : WorldView) (term : ℕ) (named : List ℕ) (p : Primary) (g : TermGateView) → AreParts v → GoesLiveFrom v term named p g →
    AreParts (granted_world v p g)
with_primary v term named p g parts goes =
    let live = goes.live in
    let rules = goes.begins.rules in
    let machine : p.book.machine ≡ p.book.start = ap (λ (b : BookView RecordingView). b.machine) live.begins in
    record {
      guest = parts.guest;
      quorum = parts.quorum;
      stores = parts.stores;
      idle = ap (λ (b : BookView RecordingView). b.leases) live.begins;
      within = λ hart.
          subst (λ row. counts_of p.book.machine hart ≤ count_at row hart) (sym live.unused.limits_are)
          (in_limits v.image.harts p.opening p.book.machine rules (ap (λ (o : OpeningParts). o.guest.harts) live.at.opened)
          (λ h. ap (λ (m : MachineState). counts_of m h) machine ∙ live.at.replayed.counts h
          ∙ ap (λ (o : OpeningParts). count_at o.base h) (sym live.at.opened)) hart);
      harts =
          ap (λ (m : MachineState). length m.harts) machine ∙ has_harts v.image live.at.replayed.legs p.book.start live.at.replayed.outcome;
      reached = ap length live.uncut.0 ∙ rules.base ∙ ap (λ (o : OpeningParts). o.guest.harts) live.at.opened;
      gate_term = live.gate.of_term ∙ sym (ap (λ (o : OpeningParts). o.term) live.at.opened);
      gate_keepers = live.gate.of_keepers;
      gate_need = live.gate.of_need;
      gate_harts = live.gate.of_harts;
      acked = ap length live.gate.acked ∙ length-replicate v.keepers (replicate v.image.harts 0);
      offered = all_stay g.gate p.book.machine live.offered;
    }

-- ---- the new world

abbrev pub world_with : WorldView → TermGateView → Primary → List Primary → List Frame → WorldView
world_with v g p stopped sent = record v { primary = p; runs = true; stopped = stopped; sent = sent; gate = g }

pub is_granted : (v : WorldView) (g : TermGateView) (p now : Primary) (stopped : List Primary) (sent : List Frame) → now ≡ p →
    stopped ≡ v.stopped ++ v.primary ∷ [] → sent ≡ v.sent ++ Opening p.opening ∷ [] → world_with v g now stopped sent ≡ granted_world v p g
is_granted v g p now stopped sent primary before frames =
    ap (λ x. world_with v g x stopped sent) primary
    ∙ ap (λ x. world_with v g p x sent) before
    ∙ ap (λ x. world_with v g p (v.stopped ++ v.primary ∷ []) x) frames

pub new_world : (v : WorldView) (term : ℕ) (named : List ℕ) (p : Primary) (g : TermGateView) → IsWorld v → v.runs ≡ false → GoesLiveFrom v term named p g →
    IsWorld (granted_world v p g)
new_world v term named p g is quiet goes =
    record {
      parts = with_primary v term named p g is.parts goes;
      tied = granted v is.tied is.parts term named p g goes quiet;
    }
