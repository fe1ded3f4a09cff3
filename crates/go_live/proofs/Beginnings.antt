-- The primary that goes on from where a replay of stores led to.
use Rattle.std.proofs.Common.{◌≡◌, ℕ, List, length, sym, ap, subst, ◌∙◌}
use Rattle.ft_types.specs.Counts.{count_at}
use Rattle.guest_image.specs.Image.{ImageContents}
use Rattle.guest_image.specs.Machine.{MachineState}
use Rattle.hart_lease.specs.Runs.{counts_of}
use Rattle.book_modes.specs.Recordings.{IsUnused}
use Rattle.fragment_codec.specs.Rules.{OpeningParts, IsOpening}
use Rattle.log_join.specs.Stores.{StoreView}
use Rattle.hart_replay.specs.Images.{GuestHistory}
use Rattle.hart_replay.specs.Primaries.{IsPrimary}
use Rattle.primary.specs.declared.granted.Primary.{Primary}
use Rattle.primary.specs.Primaries.{no_limits, IsUncut}
use Rattle.go_live.specs.Lives.{IsAtPosition}
use Rattle.go_live.specs.Histories.{AreOfHistory, IsOfHistory, MakesLonger}
use Rattle.go_live.specs.Beginnings.{BeginsTerm}
use Rattle.go_live.proofs.Places.{has_harts}

module _ (image : ImageContents) (stores : List StoreView) (term : ℕ) (start : MachineState) (opening : OpeningParts) (marks : List ℕ)
    (at : IsAtPosition image stores term start opening marks) where
  -- the machine at the position has the opening's harts and counts
  pub at_harts : length start.harts ≡ opening.guest.harts
  at_harts = has_harts image at.replayed.legs start at.replayed.outcome ∙ sym (ap (λ (o : OpeningParts). o.guest.harts) at.opened)

  pub at_counts : (hart : ℕ) → counts_of start hart ≡ count_at opening.base hart
  at_counts hart = at.replayed.counts hart ∙ ap (λ (o : OpeningParts). count_at o.base hart) (sym at.opened)

  -- so does the primary that goes on from there
  module _ (p : Primary) (opens : p.opening ≡ opening) (begins : p.book.start ≡ start) where
    pub at_too : IsAtPosition image stores term p.book.start p.opening marks
    at_too =
        subst (λ (m : MachineState). IsAtPosition image stores term m p.opening marks) (sym begins)
        (subst (λ (o : OpeningParts). IsAtPosition image stores term start o marks) (sym opens) at)

    pub unused_so : IsUnused p.book.mode p.book.start (no_limits opening.guest.harts) → IsUnused p.book.mode p.book.start (no_limits image.harts)
    unused_so unused = subst (λ n. IsUnused p.book.mode p.book.start (no_limits n)) (ap (λ (o : OpeningParts). o.guest.harts) at.opened) unused

    pub uncut_so : IsUncut opening.base p.sealed → IsUncut p.opening.base p.sealed
    uncut_so uncut = subst (λ (o : OpeningParts). IsUncut o.base p.sealed) (sym opens) uncut

-- what going live does in a history makes it the beginning of a term
pub begins_term : (image : ImageContents) (term : ℕ) (stores : List StoreView) (p : Primary) (start : MachineState) (opening : OpeningParts) →
    p.book.start ≡ start → p.opening ≡ opening → IsPrimary p.book → IsOpening opening →
    ((h : GuestHistory) → AreOfHistory image h stores → IsOfHistory image h start opening) →
    ((h : GuestHistory) → AreOfHistory image h stores → MakesLonger image h term start opening) → BeginsTerm image term stores p
begins_term image term stores p start opening begins opens primary rules is_history longer =
    record {
      primary = primary;
      rules = subst IsOpening (sym opens) rules;
      is_history = λ h honest.
          subst (λ (o : OpeningParts). IsOfHistory image h p.book.start o) (sym opens)
          (subst (λ (m : MachineState). IsOfHistory image h m opening) (sym begins) (is_history h honest));
      longer = λ h honest.
          subst (λ (o : OpeningParts). MakesLonger image h term p.book.start o) (sym opens)
          (subst (λ (m : MachineState). MakesLonger image h term m opening) (sym begins) (longer h honest));
    }
