-- What streams of honest frames give.
use Rattle.std.specs.Prelude.{◌≡◌, ℕ, List, Some}
use Rattle.ft_types.specs.Counts.{count_at}
use Rattle.interleaving.specs.Lists.{put}
use Rattle.interleaving.specs.Stored.{view}
use Rattle.fragment_codec.specs.declared.frame.Frame.{Frame as LogFrame}
use Rattle.log_join.specs.Stores.{StoreView}
use Rattle.log_join.specs.Families.{no_terms}
use Rattle.ft_types.specs.declared.position.Position.{Position}
use Rattle.closed_cut.specs.Position.{IsPosition}
use Rattle.rv32_hart.specs.Hardware.{hardware}
use Rattle.scripts.specs.declared.script.Offered.{Offered}
use Rattle.guest_image.specs.Image.{ImageContents, guest_of}
use Rattle.page_book.specs.Books.{BookView}
use Rattle.book_modes.specs.Recordings.{RecordingView}
use Rattle.guest_image.specs.Machine.{MachineState}
use Rattle.hart_replay.specs.Images.{GuestTerm, GuestHistory, machine_of, AreHonestOf}
use Rattle.hart_replay.specs.Primaries.{IsPrimary, IsTermOfBook}
use Rattle.log_streams.specs.declared.faults.StreamsFault.{StreamsFault}
use Rattle.log_streams.specs.declared.faults.StreamsFault.TheVariants.{Read, Frame, Guest, Replay, Write, Memory}
use Rattle.log_streams.specs.Streams.{SayAll, AreJoined}
use Rattle.log_streams.specs.Primary.{IsRunOf, AreFramesOf}
use Rattle.log_streams.specs.Ends.{LeavePlaces}

-- the streams are frames of the image's guest, and each is a frame of the history from the image's boot
pub record TellTruly (image : ImageContents) (history : GuestHistory) (streams : List (List ℕ)) : Type 0 where
  pub frames : List LogFrame
  pub say : SayAll (guest_of image) streams frames
  pub honest : AreHonestOf image history frames

-- the machine is the history's at the position of the join of the streams' frames
pub record IsOfHistory (image : ImageContents) (history : GuestHistory) (streams : List (List ℕ)) (machine : MachineState) : Type 0 where
  pub store : StoreView
  pub joined : AreJoined (guest_of image) streams store
  pub position : Position
  pub is_position : IsPosition store position
  pub is : view (hardware image.pages) machine ≡ machine_of image history position.term (count_at position.counts)

-- what tells of a primary's run from boot tells truly: of a history whose one term is the run's
abbrev pub RunsTellTruly : Type 0
RunsTellTruly =
    (image : ImageContents) (script : List Offered) (limit : ℕ) (book : BookView RecordingView) (frames : List LogFrame) (streams : List (List ℕ)) →
    IsRunOf image script limit book → IsPrimary book → AreFramesOf (guest_of image) book frames → SayAll (guest_of image) streams frames →
    (past : GuestTerm) × IsTermOfBook book past × TellTruly image (put no_terms 1 (Some past)) streams

-- and the machine that is the history's at their position is the run's
abbrev pub RunsReplay : Type 0
RunsReplay =
    (image : ImageContents) (script : List Offered) (limit : ℕ) (book : BookView RecordingView) (frames : List LogFrame) (streams : List (List ℕ))
    (past : GuestTerm) (machine : MachineState) → IsRunOf image script limit book → IsPrimary book → AreFramesOf (guest_of image) book frames →
    LeavePlaces frames → SayAll (guest_of image) streams frames → IsTermOfBook book past →
    IsOfHistory image (put no_terms 1 (Some past)) streams machine → machine ≡ book.machine

-- memory was refused, or a reader or the writer failed
abbrev pub IsOfDevices : StreamsFault → Type 0
IsOfDevices (Read i) = Unit {0}
IsOfDevices Write = Unit {0}
IsOfDevices Memory = Unit {0}
IsOfDevices (Frame i fault) = ⊥
IsOfDevices (Guest i) = ⊥
IsOfDevices (Replay fault) = ⊥
