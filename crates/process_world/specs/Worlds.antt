-- Processes of a pair: the disks of keepers with what is under way on each, primaries of several terms at once, clients, and all that was ever sent.
use Rattle.std.specs.Prelude.{◌≡◌, ◌≢◌, ◌<◌, ◌≤◌, ℕ, List, [], slice_get, Option, None, Some}
use Rattle.guest_image.specs.Image.{ImageContents}
use Rattle.book_modes.specs.Recordings.{RecordingView}
use Rattle.page_book.specs.Books.{BookView}
use Rattle.fragment_codec.specs.declared.frame.Frame.{Frame}
use Rattle.fragment_codec.specs.Rules.{OpeningParts}
use Rattle.keeper_disks.specs.Disks.{Disk}
use Rattle.keeper_disks.specs.Standing.{nothing_there}
use Rattle.leading.specs.Leaders.{LeaderView}
use Rattle.asking.specs.Talks.{TalkView}
use Rattle.wire.specs.declared.acknowledgements.Acknowledgement.{Acknowledgement}
use Rattle.wire.specs.declared.answers.Answer.{Answer}
use Rattle.wire.specs.declared.requests.Request.{Request}

-- a log that was handed over to a term: whole frames
pub record Handed : Type 0 where
  pub keeper : ℕ
  pub term : ℕ
  pub bytes : List ℕ

-- the primary of a term that was granted; where its process is gone, its term and its book stay
pub record Led : Type 0 where
  pub opening : OpeningParts
  pub leader : Option LeaderView
  pub book : BookView RecordingView  -- that of its process, at last

-- The network loses, repeats and reorders: whatever was sent stays, and may come at any time, again, or never.
pub record ProcessWorld : Type 0 where
  pub image : ImageContents
  pub keepers : ℕ  -- how many there were at first
  pub need : ℕ  -- how many hold whatever goes out
  pub disks : ℕ → Option Disk  -- by keeper; none once it is lost
  pub frames : List Frame  -- all that primaries sent to keepers
  pub said : List Acknowledgement  -- all that keepers acknowledged
  pub handed : List Handed  -- all logs that were handed over
  pub led : List Led  -- by the order in which their terms were granted
  pub told : List Answer  -- all that primaries told
  pub clients : List TalkView
  pub asked : List Request  -- all that anybody asked for

-- each keeper has an empty disk, and nobody else is there
pub record Begins (image : ImageContents) (keepers need : ℕ) (w : ProcessWorld) : Type 0 where
  pub of_image : w.image ≡ image
  pub of_keepers : w.keepers ≡ keepers
  pub of_need : w.need ≡ need
  pub there : (k : ℕ) → k < keepers → w.disks k ≡ Some nothing_there
  pub others : (k : ℕ) → keepers ≤ k → w.disks k ≡ None
  pub no_frames : w.frames ≡ []
  pub none_said : w.said ≡ []
  pub none_handed : w.handed ≡ []
  pub none_led : w.led ≡ []
  pub none_told : w.told ≡ []
  pub no_clients : w.clients ≡ []
  pub none_asked : w.asked ≡ []

-- the term was never granted
abbrev pub IsNotGranted : ProcessWorld → ℕ → Type 0
IsNotGranted w term = (n : ℕ) (l : Led) → slice_get w.led n ≡ Some l → l.opening.term ≢ term

-- the process of the primary with this number is this one
abbrev pub led_as : LeaderView → Led
led_as l = record { opening = l.primary.opening; leader = Some l; book = l.primary.book }

abbrev pub Leads : ProcessWorld → ℕ → LeaderView → Type 0
Leads w n l = slice_get w.led n ≡ Some (led_as l)
