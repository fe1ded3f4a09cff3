-- A primary that goes live in a new term, with its gate.
use Rattle.std.specs.Prelude.{ℕ, List}
use Rattle.guest_image.specs.Image.{ImageContents}
use Rattle.book_modes.specs.Recordings.{IsUnused}
use Rattle.fragment_codec.specs.Rules.{IsOpening}
use Rattle.log_join.specs.Stores.{StoreView}
use Rattle.hart_replay.specs.Images.{GuestHistory}
use Rattle.hart_replay.specs.Primaries.{IsPrimary}
use Rattle.term_gate.specs.TermGates.{TermGateView, IsNewGate}
use Rattle.primary.specs.declared.granted.Primary.{Primary}
use Rattle.primary.specs.Primaries.{BeginsFrom, no_limits, IsUncut}
use Rattle.primary.specs.Gating.{AreAllOffered}
use Rattle.go_live.specs.Quorums.{AreEnough, IsNew}
use Rattle.go_live.specs.Lives.{IsAtPosition}
use Rattle.go_live.specs.Histories.{AreOfHistory, IsOfHistory, MakesLonger}

-- The primary begins where the stores of so many keepers lead to, with a gate at which all outputs of its machine were offered, and which
-- passes over those that are noted there.
pub record GoesLive (image : ImageContents) (keepers need term : ℕ) (here : List ℕ) (stores : List StoreView) (p : Primary) (g : TermGateView) :
    Type 0 where
  pub enough : AreEnough keepers need here
  pub new : IsNew stores term
  pub marks : List ℕ
  pub at : IsAtPosition image stores term p.book.start p.opening marks
  pub begins : BeginsFrom p.book.start p.book
  pub unused : IsUnused p.book.mode p.book.start (no_limits image.harts)
  pub uncut : IsUncut p.opening.base p.sealed
  pub gate : IsNewGate g term keepers need image.harts marks
  pub offered : AreAllOffered g.gate p.book.machine

-- it makes each history longer whose frames the stores have
pub record BeginsTerm (image : ImageContents) (term : ℕ) (stores : List StoreView) (p : Primary) : Type 0 where
  pub primary : IsPrimary p.book
  pub rules : IsOpening p.opening
  pub is_history : (h : GuestHistory) → AreOfHistory image h stores → IsOfHistory image h p.book.start p.opening
  pub longer : (h : GuestHistory) → AreOfHistory image h stores → MakesLonger image h term p.book.start p.opening
