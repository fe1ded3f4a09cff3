-- Why events are refused, and what a refused one leaves.
use Rattle.std.specs.Prelude.{◌≡◌, ◌≤◌, ◌<◌, ◌⊎◌, ◌-◌, ◌++◌, ℕ, List, [], ◌∷◌, drop, length, slice_get, slice_set, take, Option, None, Some}
use Rattle.std.specs.Option.{option_to_list}
use Rattle.guest_image.specs.Image.{guest_of}
use Rattle.fragment_codec.specs.declared.frame.Frame.{Frame}
use Rattle.stations.specs.Stations.{StationView}
use Rattle.leading.specs.Hearing.{LetsNothingGo, WithNoted}
use Rattle.leading.specs.Leaders.{LeaderView}
use Rattle.wire.specs.declared.acknowledgements.Acknowledgement.{Acknowledgement}
use Rattle.process_world.specs.Happenings.{OnlyHears}
use Rattle.live_world.specs.declared.event.LiveEvent.{LiveEvent}
use Rattle.live_world.specs.declared.event.LiveEvent.TheVariants.{Keeper, Primary, Client}
use Rattle.live_world.specs.declared.event.KeeperEvent.{KeeperEvent}
use Rattle.live_world.specs.declared.event.KeeperEvent.TheVariants as k
use Rattle.live_world.specs.declared.event.PrimaryEvent.{PrimaryEvent}
use Rattle.live_world.specs.declared.event.PrimaryEvent.TheVariants as p
use Rattle.live_world.specs.declared.event.ClientEvent.{ClientEvent}
use Rattle.live_world.specs.declared.event.ClientEvent.TheVariants as c
use Rattle.live_world.specs.declared.fault.EventFault.{EventFault}
use Rattle.live_world.specs.declared.fault.EventFault.TheVariants as fault
use Rattle.live_world.specs.declared.hand.HandedTo.{HandedTo}
use Rattle.live_world.specs.declared.seat.Seat.TheVariants.{Runs, Ended}
use Rattle.live_world.specs.declared.site.Site.{Site}
use Rattle.live_world.specs.Calls.{BeginsNot, HandsRead, HasBegun, HasLogged, IsNotHandedOver, LogsNot, TakesNot}
use Rattle.live_world.specs.Grants.{IsNotLive}
use Rattle.live_world.specs.Happenings.{AtSeat, AtSite, EndsAt, HandActs}
use Rattle.live_world.specs.Renewals.{IsNotRenewed}
use Rattle.live_world.specs.Seats.{IsGrantedIn, RunsNot}
use Rattle.live_world.specs.Shelves.{HandDoes, IsNoTurn}
use Rattle.live_world.specs.Sites.{site_at}
use Rattle.live_world.specs.Views.{LiveView}

-- ---- keepers

abbrev pub keeper_of : KeeperEvent → ℕ
keeper_of (k.Begin keeper plan) = keeper
keeper_of (k.Take keeper from to piece) = keeper
keeper_of (k.Log keeper plan) = keeper
keeper_of (k.KeeperEnds keeper) = keeper
keeper_of (k.Crash keeper left) = keeper
keeper_of (k.Lose keeper) = keeper
keeper_of (k.Renew keeper term handed) = keeper
keeper_of (k.Hand keeper act) = keeper

-- the machine of the keeper is there, and its process does not run
abbrev pub RestsAt : LiveView → ℕ → Type 0
RestsAt v keeper = (s : Site) × (site_at v.sites keeper ≡ Some s) × (s.station ≡ None)

abbrev pub RunsAt : LiveView → ℕ → Type 0
RunsAt v keeper = (s : Site) × (st : StationView) × (site_at v.sites keeper ≡ Some s) × (s.station ≡ Some st)

-- memory was refused, or what a keeper's files have is none of what it asks for
abbrev pub KeeperRefuses : LiveView → KeeperEvent → EventFault → Type 0
KeeperRefuses v (k.Renew keeper term handed) f = IsNotRenewed v keeper term handed.items f
KeeperRefuses v event fault.NoKeeper = site_at v.sites (keeper_of event) ≡ None
KeeperRefuses v (k.Begin keeper plan) fault.Runs = RunsAt v keeper
KeeperRefuses v (k.Take keeper from to piece) fault.Rests = RestsAt v keeper
KeeperRefuses v (k.Log keeper plan) fault.Rests = RestsAt v keeper
KeeperRefuses v (k.Take keeper from to piece) fault.NoFrame = from ≤ to → to ≤ length v.frames → ⊥
KeeperRefuses v (k.Hand keeper act) fault.NoTurn = (s : Site) × (site_at v.sites keeper ≡ Some s) × IsNoTurn s.files act fault.NoTurn
KeeperRefuses v (k.Hand keeper act) (fault.Fenced last) = (s : Site) × (site_at v.sites keeper ≡ Some s) × IsNoTurn s.files act (fault.Fenced last)
KeeperRefuses v (k.Hand keeper act) (fault.Far last) = (s : Site) × (site_at v.sites keeper ≡ Some s) × IsNoTurn s.files act (fault.Far last)
KeeperRefuses v (k.Begin keeper plan) (fault.Log why) = Unit {0}
KeeperRefuses v (k.Log keeper plan) (fault.Log why) = Unit {0}
KeeperRefuses v (k.Hand keeper act) (fault.Log why) = Unit {0}
KeeperRefuses v (k.Log keeper plan) (fault.Files why) = RunsAt v keeper
KeeperRefuses v event fault.Memory = Unit {0}
KeeperRefuses v event other = ⊥

-- behind a call that left the machine so, what was read of its log was handed over, or is no log that is
abbrev pub ThenMayHand : LiveView → ℕ → (Site → Site → Type 0) → List HandedTo → Site → Site → Type 0
ThenMayHand v keeper Deed handed before after =
    (mid : Site) × Deed before mid ×
    (((one : Option HandedTo) × HandsRead (guest_of v.image) keeper mid one × (handed ≡ option_to_list one)) ⊎
    ((handed ≡ []) × (f : EventFault) × IsNotHandedOver (guest_of v.image) mid f)) ×
    (after ≡ record mid { files = record mid.files { read = None } })

-- What a refused event leaves: all as it was, but where a keeper's call was done in part, or what it read is not handed over.
abbrev pub KeeperLeaves : LiveView → KeeperEvent → EventFault → LiveView → Type 0
KeeperLeaves v (k.Begin keeper plan) (fault.Log why) w =
    (handed : List HandedTo) × AtSite v keeper (ThenMayHand v keeper (λ s t. HasBegun (guest_of v.image) keeper s t ⊎
    ((f : EventFault) × BeginsNot (guest_of v.image) s f t)) handed) w × (w ≡ record v { sites = w.sites; handed = v.handed ++ handed })
KeeperLeaves v (k.Take keeper from to piece) fault.Memory w =
    AtSite v keeper (λ s t. TakesNot (take (to - from) (drop from v.frames)) s fault.Memory t) w × (w ≡ record v { sites = w.sites })
KeeperLeaves v (k.Log keeper plan) (fault.Log why) w =
    (handed : List HandedTo) × (said : Option Acknowledgement) ×
    AtSite v keeper (ThenMayHand v keeper (λ s t. HasLogged s said t ⊎ ((said ≡ None) × (f : EventFault) × LogsNot s f t)) handed) w ×
    (w ≡ record v { sites = w.sites; said = v.said ++ option_to_list said; handed = v.handed ++ handed })
KeeperLeaves v (k.Log keeper plan) (fault.Files why) w =
    (handed : List HandedTo) × AtSite v keeper (ThenMayHand v keeper (λ s t. LogsNot s (fault.Files why) t) handed) w ×
    (w ≡ record v { sites = w.sites; handed = v.handed ++ handed })
KeeperLeaves v (k.Hand keeper act) (fault.Log why) w =
    AtSite v keeper (ThenMayHand v keeper (HandActs (k.Hand keeper act)) []) w × (w ≡ record v { sites = w.sites })
KeeperLeaves v event f w = w ≡ v

-- ---- primaries

-- the primaries that it names
abbrev pub primary_of : PrimaryEvent → Option ℕ
primary_of (p.GoLive term handed) = None
primary_of (p.Request primary asked) = Some primary
primary_of (p.Round primary steps spacing) = Some primary
primary_of (p.Seal primary) = Some primary
primary_of (p.Hear primary said) = Some primary
primary_of (p.Tell primary released) = Some primary
primary_of (p.End primary) = Some primary

abbrev pub PrimaryRefuses : LiveView → PrimaryEvent → EventFault → Type 0
PrimaryRefuses v (p.GoLive term handed) fault.Granted = IsGrantedIn v.led term
PrimaryRefuses v (p.GoLive term handed) f = IsNotLive v.image v.quorum term v.handed handed.items f
PrimaryRefuses v event fault.NoPrimary = (n : ℕ) × (primary_of event ≡ Some n) × RunsNot v.led n
PrimaryRefuses v (p.Request primary asked) fault.NoneAsked = length v.asked ≤ asked
PrimaryRefuses v (p.Hear primary said) fault.NoneSaid = length v.said ≤ said
PrimaryRefuses v (p.Tell primary number) fault.NoneOut =
    (l : LeaderView) × (slice_get v.led primary ≡ Some (Runs l)) × (length l.released ≤ number)
PrimaryRefuses v event fault.Memory = Unit {0}
PrimaryRefuses v event other = ⊥

-- What a refused event leaves: all as it was, but where memory was refused within a call.
abbrev pub PrimaryLeaves : LiveView → PrimaryEvent → EventFault → LiveView → Type 0
-- the primary is gone
PrimaryLeaves v (p.Round primary steps spacing) fault.Memory w = EndsAt v primary w
-- what was cut is lost
PrimaryLeaves v (p.Seal primary) fault.Memory w =
    AtSeat v primary (λ old new. new ≡ record old { primary = record old.primary { sealed = new.primary.sealed } }) w × (w ≡ record v { led = w.led })
-- the acknowledgement may be noted, and nothing goes out
PrimaryLeaves v (p.Hear primary said) fault.Memory w =
    (a : Acknowledgement) × (slice_get v.said said ≡ Some a) ×
    AtSeat v primary (λ old new. WithNoted old a (λ noted. LetsNothingGo old noted new) × OnlyHears old new) w × (w ≡ record v { led = w.led })
PrimaryLeaves v event f w = w ≡ v

-- ---- clients

-- the clients that it names
abbrev pub client_of : ClientEvent → Option ℕ
client_of (c.Join words window) = None
client_of (c.Want request) = None
client_of (c.Ask client) = Some client
client_of (c.AskAgain client) = Some client
client_of (c.Answer client told) = Some client
client_of (c.Print client) = Some client

abbrev pub ClientRefuses : LiveView → ClientEvent → EventFault → Type 0
ClientRefuses v event fault.NoClient = (n : ℕ) × (client_of event ≡ Some n) × (length v.clients ≤ n)
ClientRefuses v (c.Answer client told) fault.NoneTold = length v.told ≤ told
ClientRefuses v event fault.Memory = Unit {0}
ClientRefuses v event other = ⊥

abbrev pub ClientLeaves : LiveView → ClientEvent → EventFault → LiveView → Type 0
ClientLeaves v event f w = w ≡ v

-- ---- events

abbrev pub Refuses : LiveView → LiveEvent → EventFault → Type 0
Refuses v (Keeper event) f = KeeperRefuses v event f
Refuses v (Primary event) f = PrimaryRefuses v event f
Refuses v (Client event) f = ClientRefuses v event f

abbrev pub IsLeft : LiveView → LiveEvent → EventFault → LiveView → Type 0
IsLeft v (Keeper event) f w = KeeperLeaves v event f w
IsLeft v (Primary event) f w = PrimaryLeaves v event f w
IsLeft v (Client event) f w = ClientLeaves v event f w
