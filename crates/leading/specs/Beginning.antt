-- A primary that goes live from stores that keepers gave to its term.
use Rattle.std.specs.Prelude.{ℕ, ◌≡◌, ◌≢◌, ◌<◌, ◌≤◌, List, map, All}
use Rattle.std.specs.List.{Any}
use Rattle.ft_types.specs.declared.quorum.Quorum.{Quorum}
use Rattle.guest_image.specs.Image.{ImageContents, guest_of}
use Rattle.log_join.specs.Stores.{StoreView}
use Rattle.hart_replay.specs.Images.{GuestHistory}
use Rattle.hart_replay.specs.declared.fault.ReplayFault.TheVariants.{OtherGuest}
use Rattle.go_live.specs.declared.fault.LiveFault.TheVariants.{TooFewStores, TermNotNew, Replay, Memory}
use Rattle.go_live.specs.Quorums.{AreEnough, MostOf, IsOld}
use Rattle.go_live.specs.Beginnings.{GoesLive, BeginsTerm}
use Rattle.go_live.specs.Lives.{LeadNowhere}
use Rattle.go_live.specs.Histories.{AreOfHistory}
use Rattle.term_gate.specs.TermGates.{TermGateView}
use Rattle.primary.specs.declared.granted.Primary.{Primary}
use Rattle.fenced_live.specs.declared.given.Given.{Given}
use Rattle.fenced_live.specs.Given.{AreTo}
use Rattle.fenced_live.specs.declared.fault.GivenFault.{GivenFault}
use Rattle.fenced_live.specs.declared.fault.GivenFault.TheVariants.{OtherTerm, Live}
use Rattle.leading.specs.declared.fault.LeadFault.{LeadFault}
use Rattle.leading.specs.declared.fault.LeadFault.TheVariants.{NoKeeper, NotLive}

abbrev pub stores_in : List Given → List StoreView
stores_in given = map (λ g. g.store.now) given

abbrev pub givers_in : List Given → List ℕ
givers_in given = map (λ g. g.keeper) given

-- each giver is one of the keepers
abbrev pub AreMembers : Quorum → List Given → Type 0
AreMembers quorum given = All (λ g. g.keeper < quorum.keepers) given

-- The primary goes live from the stores that keepers gave to the term, more than half of them and each of the guest, and makes each history
-- longer whose frames they have.
pub record GoesLiveGiven (image : ImageContents) (quorum : Quorum) (term : ℕ) (given : List Given) (p : Primary) (g : TermGateView) : Type 0 where
  pub members : AreMembers quorum given
  pub own : AreTo given term
  pub most : MostOf quorum.keepers (givers_in given)
  pub same_guest : All (λ s. s.guest ≡ guest_of image) (stores_in given)
  pub live : GoesLive image quorum.keepers quorum.need term (givers_in given) (stores_in given) p g
  pub begins : BeginsTerm image term (stores_in given) p

-- A store was given to another term, the stores are of too few keepers or of no more than half, the term is not new to them, or one is of
-- another guest; or else their log leads nowhere, which frames of one history never do; or memory was refused.
abbrev pub CannotBegin : ImageContents → Quorum → ℕ → List Given → GivenFault → Type 0
CannotBegin image quorum term given OtherTerm = Any (λ g. g.term ≢ term) given
CannotBegin image quorum term given (Live TooFewStores) =
    AreEnough quorum.keepers quorum.need (givers_in given) × MostOf quorum.keepers (givers_in given) → ⊥
CannotBegin image quorum term given (Live TermNotNew) =
    AreEnough quorum.keepers quorum.need (givers_in given) × MostOf quorum.keepers (givers_in given) × IsOld (stores_in given) term
CannotBegin image quorum term given (Live (Replay fault)) =
    ((fault ≡ OtherGuest) → Any (λ s. s.guest ≢ guest_of image) (stores_in given)) ×
    (fault ≢ OtherGuest → LeadNowhere image (stores_in given) fault) ×
    ((h : GuestHistory) → AreOfHistory image h (stores_in given) → fault ≡ OtherGuest)
CannotBegin image quorum term given (Live Memory) = Unit {0}

-- a giver is none of the keepers; or all are, and no primary begins there
abbrev pub CannotGoLive : ImageContents → Quorum → ℕ → List Given → LeadFault → Type 0
CannotGoLive image quorum term given NoKeeper = Any (λ g. quorum.keepers ≤ g.keeper) given
CannotGoLive image quorum term given (NotLive fault) = AreMembers quorum given × CannotBegin image quorum term given fault
