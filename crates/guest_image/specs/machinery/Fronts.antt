-- What numbers have before their last two digits.
use Rattle.std.specs.Prelude.{◌≡◌, ◌+◌, ◌/◌, ◌%◌, ◌^◌, ◌≤◌, drop, decimal}
use Rattle.guest_image.specs.declared.front.Front.{Front}
use Rattle.guest_image.specs.declared.front.Fronts.{Fronts}

-- the front of the hundred numbers from `first` on
pub record IsFront (f : Front) : Type 0 where
  pub hundreds : 100 ≤ f.first
  pub whole : f.first % 100 ≡ 0
  pub numbers : f.first + 100 ≤ 2 ^ 64
  pub from : f.from ≤ 20
  pub text : drop f.from f.text ≡ decimal (f.first / 100)

pub record AreFronts (f : Fronts) : Type 0 where
  pub numbers : IsFront f.number
  pub steps : IsFront f.step
