-- What calls do at a keeper's machine.
use Rattle.std.specs.Prelude.{◌≡◌, ◌≢◌, ◌⊎◌, ◌++◌, max, ℕ, false, List, [], ◌∷◌, take, Option, None, Some, if◌then◌else◌}
use Rattle.ft_types.specs.Guests.{GuestParts}
use Rattle.fragment_codec.specs.declared.frame.Frame.{Frame}
use Rattle.fragment_codec.specs.Streams.{spelling, Splits}
use Rattle.log_join.specs.Answers.{answer_to}
use Rattle.log_join.specs.Stores.{StoreView, IsJoin, alone}
use Rattle.log_join.specs.declared.answers.Put.TheVariants.{New as IsNew}
use Rattle.stations.specs.Acts.{Act, SawLog, CutTo}
use Rattle.stations.specs.Logs.{IsFrontOf}
use Rattle.stations.specs.Stations.{StationView, AnswersAs, IsNoKeepers, IsNotLogged, IsOnLog, logging}
use Rattle.keeper_disks.specs.Disks.{logged}
use Rattle.wire.specs.declared.acknowledgements.Acknowledgement.{Acknowledgement}
use Rattle.live_world.specs.declared.fault.EventFault.{EventFault}
use Rattle.live_world.specs.declared.fault.EventFault.TheVariants as fault
use Rattle.live_world.specs.declared.hand.HandedTo.{HandedTo}
use Rattle.live_world.specs.declared.site.Site.{Site}
use Rattle.live_world.specs.Hands.{HasHanded, IsNotRead}
use Rattle.live_world.specs.Passages.{Passes}
use Rattle.live_world.specs.Shelves.{ReadView, ShelfView, HasCrashed}

-- a keeper's call did these acts, and left this keeper where its machine did not crash meanwhile
pub record Leaves (s : Site) (acts : List Act) (station : Option StationView) (t : Site) : Type 0 where
  pub files : ShelfView
  pub passes : Passes s.files acts files
  pub rest : t ≡ record { files = record files { crashed = false }; station = if files.crashed then None else station }

-- these acts, and no others, were done
abbrev pub AreAll : List Act → List Act → Type 0
AreAll acts done = done ≡ acts

-- the keeper began with the log, and cut that behind its frames
pub record HasBegun (guest : GuestParts) (keeper : ℕ) (s t : Site) : Type 0 where
  pub away : s.station ≡ None
  pub log : List ℕ
  pub frames : List Frame
  pub size : ℕ
  pub front : IsFrontOf log frames size None
  pub station : StationView
  pub own : station.keeper ≡ keeper
  pub same_guest : station.store.guest ≡ guest
  pub on_log : IsOnLog (take size log) station
  pub nothing_fresh : station.fresh ≡ []
  pub nothing_seen : station.seen ≡ 0
  pub leaves : Leaves s (SawLog log ∷ CutTo size ∷ []) (Some station) t

-- it runs already; or its log is no keeper's, behind these acts
abbrev pub BeginsNot : GuestParts → Site → EventFault → Site → Type 0
BeginsNot guest s fault.Runs t = ((st : StationView) × (s.station ≡ Some st)) × (t ≡ s)
BeginsNot guest s (fault.Log why) t = (s.station ≡ None) × (acts : List Act) × IsNoKeepers guest (AreAll []) (AreAll acts) why × Leaves s acts None t
BeginsNot guest s other t = ⊥

-- what was fresh was added and brought to disk, and then this fence was seen; what the keeper says is behind that
pub record HasLogged (s : Site) (said : Option Acknowledgement) (t : Site) : Type 0 where
  pub station : StationView
  pub runs : s.station ≡ Some station
  pub fence : ℕ
  pub leaves : Leaves s (logging station.fresh fence) (Some (logged station fence)) t
  pub says : AnswersAs station.keeper station.store (max station.seen fence) said

-- it does not run; or its files failed, behind these acts
abbrev pub LogsNot : Site → EventFault → Site → Type 0
LogsNot s fault.Rests t = (s.station ≡ None) × (t ≡ s)
LogsNot s (fault.Files why) t =
    (st : StationView) × (s.station ≡ Some st) × (acts : List Act) × IsNotLogged st.fresh (AreAll []) (AreAll acts) why × Leaves s acts None t
LogsNot s other t = ⊥

-- the machine crashed, and the keeper is gone
abbrev pub CrashesAt : Site → Site → Type 0
CrashesAt s t = (files : ShelfView) × HasCrashed s.files files × (t ≡ record { files = record files { crashed = false }; station = None })

-- The frame came to the keeper: one that is new is joined to its store, and its spelling, which is that frame and nothing else, is to be added to the log. No
-- other changes anything.
abbrev pub TakesOne : Frame → Site → Site → Type 0
TakesOne frame s t =
    (st : StationView) × (s.station ≡ Some st) ×
    (((answer_to st.store frame ≡ IsNew) × (store : StoreView) × IsJoin st.store (alone frame) store × Splits (spelling frame) (frame ∷ []) [] ×
    (t ≡ record s { station = Some (record st { store = store; fresh = st.fresh ++ spelling frame }) })) ⊎
    ((answer_to st.store frame ≢ IsNew) × (t ≡ s)))

abbrev pub TakesAll : List Frame → Site → Site → Type 0
TakesAll [] s t = t ≡ s
TakesAll (frame ∷ frames) s t = (mid : Site) × TakesOne frame s mid × TakesAll frames mid t

-- it does not run; or memory was refused, behind some of the frames
abbrev pub TakesNot : List Frame → Site → EventFault → Site → Type 0
TakesNot frames s fault.Rests t = (s.station ≡ None) × (t ≡ s)
TakesNot frames s fault.Memory t = (many : ℕ) × TakesAll (take many frames) s t
TakesNot frames s other t = ⊥

-- what was read is handed over, where anything was
abbrev pub HandsRead : GuestParts → ℕ → Site → Option HandedTo → Type 0
HandsRead guest keeper s None = s.files.read ≡ None
HandsRead guest keeper s (Some handed) = (read : ReadView) × (s.files.read ≡ Some read) × HasHanded guest keeper read handed

-- what was read is no log that is handed over
abbrev pub IsNotHandedOver : GuestParts → Site → EventFault → Type 0
IsNotHandedOver guest s (fault.Log why) = (read : ReadView) × (s.files.read ≡ Some read) × IsNotRead guest read why
IsNotHandedOver guest s other = ⊥
