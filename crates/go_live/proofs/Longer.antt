-- Going live in a history.
use Rattle.std.proofs.Common.{◌≢◌, ℕ, List, Err, refl, sym, ap, subst, ◌∙◌, inl, inr}
use Rattle.ft_types.specs.Counts.{count_at}
use Rattle.fragment_codec.specs.Rules.{OpeningParts}
use Rattle.log_join.specs.Stores.{StoreView, nothing}
use Rattle.log_join.specs.Families.{HonestStore, no_terms}
use Rattle.log_join.proofs.Families.{joins_honest, honest_nothing}
use Rattle.guest_image.specs.Image.{ImageContents, guest_of}
use Rattle.guest_image.specs.Machine.{MachineState}
use Rattle.hart_replay.specs.declared.plans.PlannedLeg.{PlannedLeg}
use Rattle.hart_replay.specs.declared.fault.ReplayFault.{ReplayFault}
use Rattle.hart_replay.specs.declared.fault.ReplayFault.TheVariants.{Cyclic, HaltedInside, OtherGuest, Memory}
use Rattle.hart_replay.specs.Images.{GuestHistory, machine_of, IsHistoryOf, IsHonestStoreOf}
use Rattle.hart_replay.specs.Replays.{IsOutcome, IsAtLeg, IsCyclicAt, HaltsInsideAt, IfCyclic, IfHaltedInside}
use Rattle.hart_replay.specs.Leading.{IsLegsFault}
use Rattle.hart_replay.proofs.honesty.Images.{honest_in}
use Rattle.hart_replay.proofs.honesty.Replays.{at_position, replays_history}
use Rattle.hart_replay.proofs.failovers.Books.{outcomes_begin, books_go_live}
use Rattle.go_live.specs.Quorums.{IsNew}
use Rattle.go_live.specs.Joined.{AreJoined}
use Rattle.go_live.specs.Lives.{IsAtPosition, LeadNowhere}
use Rattle.go_live.specs.Histories.{AreOfHistory, IsOfHistory, MakesLonger, NoneYet, OneMore, PrimariesMakeHistories}
use Rattle.go_live.proofs.Joins.{joined_keep, joined_below}
use Rattle.go_live.proofs.Places.{term_below}

told : (image : ImageContents) (legs : List PlannedLeg) (fault : ReplayFault) → fault ≢ OtherGuest →
    IfCyclic fault (λ counts. IsAtLeg image legs (λ leg m. IsCyclicAt leg m counts)) →
    IfHaltedInside fault (λ hart count. IsAtLeg image legs (λ leg m. HaltsInsideAt leg m hart count)) → IsLegsFault image legs fault
told image legs (Cyclic counts) own cyclic halted = cyclic
told image legs (HaltedInside hart count) own cyclic halted = halted
told image legs OtherGuest own cyclic halted = absurd (own refl)
told image legs Memory own cyclic halted = tt

module _ (image : ImageContents) (history : GuestHistory) (stores : List StoreView) (honest : AreOfHistory image history stores) where
  -- the join of the stores is of the history
  joined_honest : (joined : StoreView) → AreJoined (guest_of image) stores joined → IsHonestStoreOf image history joined
  joined_honest joined are =
      record {
        is_history = honest.is_history;
        honest =
            joined_keep (HonestStore history) (λ a b c join one two. (joins_honest _ history a b c one two join).honest) (nothing (guest_of image)) stores joined
            (honest_nothing history (guest_of image)) honest.each are;
      }

  pub starts : (number : ℕ) (machine : MachineState) (opening : OpeningParts) (marks : List ℕ) → IsAtPosition image stores number machine opening marks →
      IsOfHistory image history machine opening
  starts number machine opening marks at =
      at_position image at.replayed.legs history at.joined at.position at.replayed.rules (honest_in image history at.joined (joined_honest at.joined at.are_joined))
      at.replayed.planned machine
      at.replayed.outcome
      ∙ ap (λ (o : OpeningParts). machine_of image history o.parent (count_at o.base)) (sym at.opened)

  pub never_nowhere : (fault : ReplayFault) → LeadNowhere image stores fault → ⊥
  never_nowhere fault (joined, are, has) =
      elim (replays_history image has.legs (Err fault) tt (told image has.legs fault has.same_guest has.cyclic has.halted_inside) history joined has.position has.rules
      (joined_honest joined are) has.planned) [
        | inl other ↦ has.same_guest other
        | inr memory ↦ has.in_memory memory
      ]

  pub longer : (number : ℕ) (machine : MachineState) (opening : OpeningParts) (marks : List ℕ) → IsNew stores number →
      IsAtPosition image stores number machine opening marks → MakesLonger image history number machine opening
  longer number machine opening marks new at granted book past start primary its same =
      books_go_live image history at.joined at.position at.replayed.legs number book past at.replayed.rules joined at.replayed.is_position at.replayed.planned
      granted
      (term_below at.joined at.position number at.replayed.is_position new.granted
      (joined_below (guest_of image) stores number at.joined new at.are_joined))
      (outcomes_begin image history at.joined at.position at.replayed.legs book at.replayed.rules joined at.replayed.planned
      (subst (λ (m : MachineState). IsOutcome image at.replayed.legs m) (sym start) at.replayed.outcome) primary)
      its
      (ap (λ (o : OpeningParts). o.parent) (same ∙ at.opened))
    where
      joined : IsHonestStoreOf image history at.joined
      joined = joined_honest at.joined at.are_joined

no_history : (image : ImageContents) → IsHistoryOf image no_terms
no_history image = record { is_history = record { none = refl; terms = λ number past none. cc }; true_logs = λ number past none. cc }

pub primaries_make_histories : PrimariesMakeHistories
primaries_make_histories image history (NoneYet none) = subst (IsHistoryOf image) (sym none) (no_history image)
primaries_make_histories image history (OneMore before number past are live more) =
    subst (IsHistoryOf image) (sym more)
    (longer image before live.stores live.honest number live.book.start past.opening live.marks live.new live.at live.granted live.book past refl live.primary live.of_book
    refl)
