-- What is told of a log.
use Rattle.std.specs.Prelude.{◌≡◌, ℕ, List, length}
use Rattle.ft_types.specs.Guests.{GuestParts}
use Rattle.fragment_codec.specs.declared.frame.Frame.{Frame}
use Rattle.log_join.specs.Stores.{StoreView, IsLastTerm}
use Rattle.closed_cut.specs.Position.{IsPosition}
use Rattle.stations.specs.Logs.{IsFrontOf}
use Rattle.log_mending.specs.Gathering.{IsGathered}
use Rattle.log_mending.specs.declared.checking.Checked.{Checked}

-- all frames at its front and what stands behind them; how many of them a keeper takes, and what these come to
pub record IsChecked (guest : GuestParts) (log : List ℕ) (checked : Checked) : Type 0 where
  pub frames : List Frame
  pub front : IsFrontOf log frames checked.size checked.fault
  pub many : length frames ≡ checked.frames
  pub store : StoreView
  pub gathered : IsGathered guest frames checked.taken checked.misfit store
  pub last : IsLastTerm store checked.last_term
  pub position : IsPosition store checked.position
