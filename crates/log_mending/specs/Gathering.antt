-- Frames that make a store, up to the first that it does not take.
use Rattle.std.specs.Prelude.{◌≡◌, ℕ, List, [], ◌∷◌, ◌++◌, length, Option, None, Some}
use Rattle.ft_types.specs.Guests.{GuestParts}
use Rattle.fragment_codec.specs.declared.frame.Frame.{Frame}
use Rattle.log_join.specs.Answers.{answer_to}
use Rattle.log_join.specs.Coming.{IsJoinOf}
use Rattle.log_join.specs.Stores.{StoreView}
use Rattle.log_join.specs.declared.answers.Put.{Put}
use Rattle.log_join.specs.declared.answers.Put.TheVariants.{OtherGuest as Foreign, Clash as Clashes}
use Rattle.log_mending.specs.declared.faults.Misfit.{Misfit}
use Rattle.log_mending.specs.declared.faults.Misfit.TheVariants.{OtherGuest, Clash}

-- what a store answers to a frame that it does not take
abbrev pub put_of : Misfit → Put
put_of OtherGuest = Foreign
put_of Clash = Clashes

-- no frame is left, or the store does not take the first of them
abbrev pub StopsAt : StoreView → List Frame → Option Misfit → Type 0
StopsAt store rest None = rest ≡ []
StopsAt store rest (Some misfit) = (frame : Frame) × (behind : List Frame) × (rest ≡ frame ∷ behind) × (answer_to store frame ≡ put_of misfit)

-- the first of the frames, so many, make the store, up to the first that it does not take
pub record IsGathered (guest : GuestParts) (frames : List Frame) (taken : ℕ) (misfit : Option Misfit) (store : StoreView) : Type 0 where
  pub first : List Frame
  pub rest : List Frame
  pub parts : frames ≡ first ++ rest
  pub many : length first ≡ taken
  pub join : IsJoinOf guest first store
  pub stops : StopsAt store rest misfit
