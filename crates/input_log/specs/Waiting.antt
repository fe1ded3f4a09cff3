-- Inputs that wait.
use Rattle.std.specs.Prelude.{ℕ, ◌≡◌, ◌≢◌, ◌-◌, ◌++◌, false, List, [], ◌∷◌, Option, Some, None, map, take, drop, take_while, nat_le, length, slice_index_or}
use Rattle.std.specs.Prelude.{All}
use Rattle.ft_types.specs.declared.names.TheConstants.{HART_ROW, INPUT_LIMIT}
use Rattle.input_log.specs.declared.Input.{Input}
use Rattle.input_log.specs.declared.Input.TheVariants.{Bell}
use Rattle.input_log.specs.declared.WaitingBell.{WaitingBell}
use Rattle.input_log.specs.declared.WaitingInput.{WaitingInput}
use Rattle.input_log.specs.Inputs.{is_bell}

-- what waits for one hart, the first at the front
pub record Queues : Type 0 where
  pub bells : List WaitingBell
  pub others : List WaitingInput

-- nothing waits
abbrev pub empty : Queues
empty = record { bells = []; others = [] }

-- the bells, and the other inputs, that wait for a hart
abbrev pub bells_of : List Queues → ℕ → List WaitingBell
bells_of desk hart = (slice_index_or desk hart empty).bells

abbrev pub others_of : List Queues → ℕ → List WaitingInput
others_of desk hart = (slice_index_or desk hart empty).others

-- the bells that go next
abbrev pub bells_going : List WaitingBell → List WaitingBell
bells_going bells = take INPUT_LIMIT bells

-- the room that they leave
abbrev pub room_beside : List WaitingBell → ℕ
room_beside bells = INPUT_LIMIT - length (bells_going bells)

-- the others that go at count n: from the front while they may, and as many as there is room for
abbrev pub others_going : ℕ → ℕ → List WaitingInput → List WaitingInput
others_going n room others = take room (take_while (λ w. nat_le w.not_before n) others)

-- the others that stay
abbrev pub others_staying : ℕ → ℕ → List WaitingInput → List WaitingInput
others_staying n room others = drop (length (others_going n room others)) others

-- what goes at count n, as inputs
abbrev pub going : ℕ → List WaitingBell → List WaitingInput → List Input
going n bells others = map (λ b. Bell b.source) (bells_going bells) ++ map (λ w. w.input) (others_going n (room_beside bells) others)

-- the least count at which something goes
abbrev pub next_going : List WaitingBell → List WaitingInput → Option ℕ
next_going (b ∷ bells) others = Some 0
next_going [] (w ∷ others) = Some w.not_before
next_going [] [] = None

-- the others are no bells
abbrev pub AreOthers : List WaitingInput → Type 0
AreOthers others = All (λ w. is_bell w.input ≡ false) others

-- a desk is another one, with this bell behind the others of a hart
pub record IsBellAddedTo (before : List Queues) (hart : ℕ) (bell : WaitingBell) (desk : List Queues) : Type 0 where
  pub harts : length before ≡ HART_ROW
  pub bells : bells_of desk hart ≡ bells_of before hart ++ bell ∷ []
  pub others : others_of desk hart ≡ others_of before hart
  pub bells_of_others : (other : ℕ) → other ≢ hart → bells_of desk other ≡ bells_of before other
  pub others_of_others : (other : ℕ) → other ≢ hart → others_of desk other ≡ others_of before other
