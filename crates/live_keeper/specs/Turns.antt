-- What a keeper does with what came, in the words of its station's calls.
use Rattle.std.specs.Prelude.{◌≡◌, ◌≢◌, ◌-◌, ◌||◌, max, ℕ, Bool, true, false, List, [], ◌∷◌, ◌++◌, Option, None, map}
use Rattle.std.specs.Option.{option_to_list}
use Rattle.fragment_codec.specs.declared.frame.Frame.{Frame}
use Rattle.fragment_codec.specs.Streams.{spelling}
use Rattle.log_join.specs.Answers.{answer_to}
use Rattle.log_join.specs.Stores.{StoreView, IsJoin, alone}
use Rattle.log_join.specs.declared.answers.Put.TheVariants.{New, Clash}
use Rattle.wire.specs.declared.acknowledgements.Acknowledgement.{Acknowledgement}
use Rattle.stations.specs.Acts.{Act, Does}
use Rattle.stations.specs.Stations.{StationView, AnswersAs, IsFar, logging}
use Rattle.live_keeper.specs.declared.events.Event.{Event}
use Rattle.live_keeper.specs.declared.events.Event.TheVariants.{Begin, Frames, Ended, Passed, Failed}
use Rattle.live_keeper.specs.declared.events.KeeperDeed.{KeeperDeed}
use Rattle.live_keeper.specs.declared.events.KeeperDeed.TheVariants.{Say, Pass}

pub record KeepingView : Type 0 where
  pub station : StationView
  pub inputs : ℕ  -- how many are not at their end
  pub passed : Bool  -- whether a fault was passed over

-- ---- frames that came

abbrev pub with_new : StationView → Frame → StoreView → StationView
with_new s frame store = record s { store = store; fresh = s.fresh ++ spelling frame }

-- `take` took these frames, one behind the other, but for openings that are far, which are passed over: each that is new is joined to the store and is to
-- be added to the log, and none clashes
pub data TakesFrames : StationView → List Frame → StationView → Type 0 where
  TookAll : (s : StationView) → TakesFrames s [] s
  TookNew : (s u : StationView) (frame : Frame) (frames : List Frame) (store : StoreView) → (IsFar s frame → ⊥) →
      answer_to s.store frame ≡ New → IsJoin s.store (alone frame) store → TakesFrames (with_new s frame store) frames u → TakesFrames s (frame ∷ frames) u
  TookOther : (s u : StationView) (frame : Frame) (frames : List Frame) → answer_to s.store frame ≢ New → answer_to s.store frame ≢ Clash →
      TakesFrames s frames u → TakesFrames s (frame ∷ frames) u
  PassedOver : (s u : StationView) (frame : Frame) (frames : List Frame) → IsFar s frame → TakesFrames s frames u → TakesFrames s (frame ∷ frames) u

-- ---- events

-- what an event makes of a keeper
abbrev pub TakesEvent : Event → KeepingView → KeepingView → Type 0
TakesEvent Begin old new = new ≡ old
TakesEvent (Frames input frames) old new = TakesFrames old.station frames.items new.station × (new ≡ record old { station = new.station })
TakesEvent Ended old new = new ≡ record old { inputs = old.inputs - 1 }
TakesEvent (Passed fault) old new = new ≡ record old { passed = true }
TakesEvent (Failed fault) old new = ⊥

-- the events were taken, one behind the other
pub data TakesEvents : KeepingView → List Event → KeepingView → Type 0 where
  NoEvent : (k : KeepingView) → TakesEvents k [] k
  OneEvent : (k between u : KeepingView) (event : Event) (events : List Event) → TakesEvent event k between → TakesEvents between events u →
      TakesEvents k (event ∷ events) u

-- whether an event has the log brought to disk
abbrev pub is_logged : Event → Bool
is_logged Begin = true
is_logged (Frames input frames) = true
is_logged other = false

abbrev pub are_logged : List Event → Bool
are_logged [] = false
are_logged (event ∷ events) = is_logged event || are_logged events

-- the faults that are passed over are told
abbrev pub passed_of : Event → List KeeperDeed
passed_of (Passed fault) = Pass fault ∷ []
passed_of other = []

abbrev pub passes : List Event → List KeeperDeed
passes [] = []
passes (event ∷ events) = passed_of event ++ passes events

-- ---- the log

-- `log_and_acknowledge`: all that is fresh is added to the log, the log is brought to disk, the fence is read, and that is what the keeper acknowledges
pub record Logs (acts_before acts_behind : List Act → Type 0) (old new : StationView) (said : Option Acknowledgement) : Type 0 where
  pub fence : ℕ
  pub acts : Does acts_before acts_behind (logging old.fresh fence)
  pub seen : new.seen ≡ max old.seen fence
  pub says : AnswersAs old.keeper old.store new.seen said
  pub rest : new ≡ record old { fresh = []; seen = new.seen }

-- that is done once where an event asks for it; else nothing is, and nothing is said
abbrev pub LogsIf : Bool → (List Act → Type 0) → (List Act → Type 0) → StationView → StationView → Option Acknowledgement → Type 0
LogsIf true before behind old new said = Logs before behind old new said
LogsIf false before behind old new said = Does before behind [] × (new ≡ old) × (said ≡ None)

-- ---- a turn

-- what came is taken, then logged, and then what is acknowledged of it is said; faults that are passed over are told before
pub record TurnsKeeper (came : List Event) (acts_before acts_behind : List Act → Type 0) (old new : KeepingView) (deeds : List KeeperDeed) : Type 0 where
  pub taken : KeepingView
  pub said : Option Acknowledgement
  pub takes : TakesEvents old came taken
  pub logs : LogsIf (are_logged came) acts_before acts_behind taken.station new.station said
  pub rest : new ≡ record taken { station = new.station }
  pub parts : deeds ≡ passes came ++ map Say (option_to_list said)

-- of a deed that says nothing to whoever hears the keeper
abbrev pub IsPass : KeeperDeed → Type 0
IsPass (Pass fault) = Unit {0}
IsPass (Say said) = ⊥
