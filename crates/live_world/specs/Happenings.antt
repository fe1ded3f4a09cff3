-- What each event does to the processes that are led.
use Rattle.std.specs.Prelude.{◌≡◌, ◌⊎◌, ◌+◌, ◌-◌, ◌++◌, ℕ, List, [], ◌∷◌, drop, length, slice_get, slice_set, take, Option, None, Some}
use Rattle.std.specs.Option.{option_to_list}
use Rattle.ft_types.specs.declared.names.TheConstants.{HART_LIMIT}
use Rattle.guest_image.specs.Image.{guest_of}
use Rattle.fragment_codec.specs.declared.frame.Frame.{Frame}
use Rattle.fragment_codec.specs.declared.frame.Frame.TheVariants.{Opening}
use Rattle.log_pieces.specs.Pieces.{IsCut, book_log}
use Rattle.primary.specs.declared.released.Released.{Released}
use Rattle.fenced_live.specs.declared.given.Given.{Given}
use Rattle.leading.specs.Beginning.{GoesLiveGiven}
use Rattle.leading.specs.Hearing.{Hears, LetsGo, WithNoted}
use Rattle.leading.specs.Leaders.{LeaderView, BeginBehind}
use Rattle.leading.specs.declared.heard.Heard.{Heard}
use Rattle.requests.specs.Asking.{next_of, asked_again, had, heard, with_answer}
use Rattle.requests.specs.declared.asker.Heard.TheVariants.{New as IsNew}
use Rattle.asking.specs.Talks.{TalkView}
use Rattle.wire.specs.Answers.{IsAnswer}
use Rattle.wire.specs.declared.acknowledgements.Acknowledgement.{Acknowledgement}
use Rattle.wire.specs.declared.answers.Answer.{Answer}
use Rattle.wire.specs.declared.requests.Request.{Request}
use Rattle.process_world.specs.Happenings.{IsRoundOf, OnlyHears, told_of, answer_of}
use Rattle.live_world.specs.declared.event.LiveEvent.{LiveEvent}
use Rattle.live_world.specs.declared.event.LiveEvent.TheVariants.{Keeper, Primary, Client}
use Rattle.live_world.specs.declared.event.KeeperEvent.{KeeperEvent}
use Rattle.live_world.specs.declared.event.KeeperEvent.TheVariants as k
use Rattle.live_world.specs.declared.event.PrimaryEvent.{PrimaryEvent}
use Rattle.live_world.specs.declared.event.PrimaryEvent.TheVariants as p
use Rattle.live_world.specs.declared.event.ClientEvent.{ClientEvent}
use Rattle.live_world.specs.declared.event.ClientEvent.TheVariants as c
use Rattle.live_world.specs.declared.hand.HandedTo.{HandedTo}
use Rattle.live_world.specs.declared.seat.Seat.TheVariants.{Runs, Ended}
use Rattle.live_world.specs.declared.site.Site.{Site}
use Rattle.live_world.specs.Calls.{CrashesAt, HandsRead, HasBegun, HasLogged, TakesAll}
use Rattle.live_world.specs.Grants.{AreGivenBy}
use Rattle.live_world.specs.Renewals.{IsRenewed}
use Rattle.live_world.specs.Seats.{IsGrantedIn}
use Rattle.live_world.specs.Shelves.{HandDoes}
use Rattle.live_world.specs.Sites.{site_at}
use Rattle.live_world.specs.Views.{LiveView}

-- ---- keepers

-- this happened at the keeper's machine
pub record AtSite (v : LiveView) (keeper : ℕ) (Deed : Site → Site → Type 0) (w : LiveView) : Type 0 where
  pub before : Site
  pub there : site_at v.sites keeper ≡ Some before
  pub after : Site
  pub deed : Deed before after
  pub sites : w.sites ≡ slice_set v.sites keeper (Some after)

-- behind a call that left the machine so, what was read of its log was handed over
abbrev pub ThenHands : LiveView → ℕ → (Site → Site → Type 0) → List HandedTo → Site → Site → Type 0
ThenHands v keeper Deed handed before after =
    (mid : Site) × Deed before mid × ((one : Option HandedTo) × HandsRead (guest_of v.image) keeper mid one × (handed ≡ option_to_list one)) ×
    (after ≡ record mid { files = record mid.files { read = None } })

-- whoever hands the log over did this, and nothing was done by the keeper
abbrev pub HandActs : KeeperEvent → Site → Site → Type 0
HandActs (k.Hand keeper act) before after = HandDoes act before.files after.files × (after.station ≡ before.station)
HandActs _ before after = ⊥

abbrev pub KeeperHappens : LiveView → KeeperEvent → LiveView → Type 0
KeeperHappens v (k.Begin keeper plan) w =
    (handed : List HandedTo) × AtSite v keeper (ThenHands v keeper (HasBegun (guest_of v.image) keeper) handed) w ×
    (w ≡ record v { sites = w.sites; handed = v.handed ++ handed })
KeeperHappens v (k.Take keeper from to piece) w =
    AtSite v keeper (TakesAll (take (to - from) (drop from v.frames))) w × (w ≡ record v { sites = w.sites })
KeeperHappens v (k.Log keeper plan) w =
    (handed : List HandedTo) × (said : Option Acknowledgement) ×
    AtSite v keeper (ThenHands v keeper (λ before mid. HasLogged before said mid) handed) w ×
    (w ≡ record v { sites = w.sites; said = v.said ++ option_to_list said; handed = v.handed ++ handed })
KeeperHappens v (k.KeeperEnds keeper) w = AtSite v keeper (λ before after. after ≡ record before { station = None }) w × (w ≡ record v { sites = w.sites })
KeeperHappens v (k.Crash keeper left) w = AtSite v keeper CrashesAt w × (w ≡ record v { sites = w.sites })
KeeperHappens v (k.Lose keeper) w = (s : Site) × (site_at v.sites keeper ≡ Some s) × (w ≡ record v { sites = slice_set v.sites keeper None })
KeeperHappens v (k.Renew keeper term handed) w = IsRenewed v keeper term handed.items w
KeeperHappens v (k.Hand keeper act) w =
    (handed : List HandedTo) × AtSite v keeper (ThenHands v keeper (HandActs (k.Hand keeper act)) handed) w ×
    (w ≡ record v { sites = w.sites; handed = v.handed ++ handed })

-- ---- primaries

-- the primary, whose process runs, did this, and stands now so
pub record AtSeat (v : LiveView) (n : ℕ) (Deed : LeaderView → LeaderView → Type 0) (w : LiveView) : Type 0 where
  pub before : LeaderView
  pub there : slice_get v.led n ≡ Some (Runs before)
  pub after : LeaderView
  pub deed : Deed before after
  pub led : w.led ≡ slice_set v.led n (Runs after)

pub record GoesLiveFrom (v : LiveView) (term : ℕ) (numbers : List ℕ) (w : LiveView) : Type 0 where
  pub given : List Given
  pub from : AreGivenBy (guest_of v.image) v.handed numbers given
  pub leader : LeaderView
  pub not_granted : IsGrantedIn v.led term → ⊥
  pub live : GoesLiveGiven v.image v.quorum term given leader.primary leader.gate
  pub queues : BeginBehind leader.primary.book.start leader.queues
  pub released : leader.released ≡ []
  pub rest : w ≡ record v { led = v.led ++ Runs leader ∷ []; frames = v.frames ++ Opening leader.primary.opening ∷ [] }

pub record HearsAsked (v : LiveView) (n asked : ℕ) (w : LiveView) : Type 0 where
  pub request : Request
  pub there : slice_get v.asked asked ≡ Some request
  pub what : Heard
  pub hears : AtSeat v n (λ old new. Hears old request new what) w
  pub rest : w ≡ record v { led = w.led; told = v.told ++ told_of what }

pub record SealsLog (v : LiveView) (n : ℕ) (w : LiveView) : Type 0 where
  pub frames : List Frame
  pub seals : AtSeat v n (λ old new.
      IsCut (book_log old.primary.opening.guest old.primary.opening.term old.primary.book) old.primary.opening.guest.harts old.primary.sealed frames
      new.primary.sealed × (new ≡ record old { primary = record old.primary { sealed = new.primary.sealed } })) w
  pub rest : w ≡ record v { led = w.led; frames = v.frames ++ frames }

pub record HearsSaidAt (v : LiveView) (n said : ℕ) (w : LiveView) : Type 0 where
  pub acknowledgement : Acknowledgement
  pub there : slice_get v.said said ≡ Some acknowledgement
  pub hears : AtSeat v n (λ old new. WithNoted old acknowledgement (λ noted. LetsGo old noted new) × OnlyHears old new) w
  pub rest : w ≡ record v { led = w.led }

pub record TellsAt (v : LiveView) (n number : ℕ) (w : LiveView) : Type 0 where
  pub leader : LeaderView
  pub there : slice_get v.led n ≡ Some (Runs leader)
  pub released : Released
  pub out : slice_get leader.released number ≡ Some released
  pub rest : w ≡ record v { told = v.told ++ answer_of leader.primary.opening.term released ∷ [] }

-- its process is gone
pub record EndsAt (v : LiveView) (n : ℕ) (w : LiveView) : Type 0 where
  pub leader : LeaderView
  pub there : slice_get v.led n ≡ Some (Runs leader)
  pub rest : w ≡ record v { led = slice_set v.led n (Ended leader.primary.opening.term) }

abbrev pub PrimaryHappens : LiveView → PrimaryEvent → LiveView → Type 0
PrimaryHappens v (p.GoLive term handed) w = GoesLiveFrom v term handed.items w
PrimaryHappens v (p.Request primary asked) w = HearsAsked v primary asked w
PrimaryHappens v (p.Round primary steps spacing) w = AtSeat v primary (IsRoundOf spacing steps) w × (w ≡ record v { led = w.led })
PrimaryHappens v (p.Seal primary) w = SealsLog v primary w
PrimaryHappens v (p.Hear primary said) w = HearsSaidAt v primary said w
PrimaryHappens v (p.Tell primary released) w = TellsAt v primary released w
PrimaryHappens v (p.End primary) w = EndsAt v primary w

-- ---- clients

-- the client did this
pub record AtTalk (v : LiveView) (c : ℕ) (Deed : TalkView → TalkView → Type 0) (w : LiveView) : Type 0 where
  pub before : TalkView
  pub there : slice_get v.clients c ≡ Some before
  pub after : TalkView
  pub deed : Deed before after
  pub clients : w.clients ≡ slice_set v.clients c after

-- its next word is asked for, where it asks for one
abbrev pub AsksNext : List Request → TalkView → TalkView → Type 0
AsksNext requests t u =
    (requests ≡ option_to_list (next_of t.asker)) × (u ≡ record t { asker = record t.asker { sent = t.asker.sent + length requests } })

-- an answer of which a line tells, to what was asked and not answered yet, is heard, and nothing else changes anything
abbrev pub HearsOne : Answer → TalkView → TalkView → Type 0
HearsOne a t u =
    (IsAnswer HART_LIMIT a × (heard t.asker a.output ≡ IsNew) × (u ≡ record t { asker = with_answer t.asker a.output })) ⊎
    ((IsAnswer HART_LIMIT a → heard t.asker a.output ≡ IsNew → ⊥) × (u ≡ t))

-- the next answer is told, where it is there
abbrev pub TellsNext : TalkView → TalkView → Type 0
TellsNext t u =
    ((had t.asker t.told ≡ None) × (u ≡ t)) ⊎ ((word : ℕ) × (had t.asker t.told ≡ Some word) × (u ≡ record t { told = t.told + 1 }))

abbrev pub ClientHappens : LiveView → ClientEvent → LiveView → Type 0
ClientHappens v (c.Join words window) w =
    (t : TalkView) × ((number : ℕ) → had t.asker number ≡ None) × (t.asker.words ≡ words.items) × (t.asker.window ≡ window) ×
    (w ≡ record v { clients = v.clients ++ t ∷ [] })
ClientHappens v (c.Want request) w = w ≡ record v { asked = v.asked ++ request ∷ [] }
ClientHappens v (c.Ask client) w =
    (requests : List Request) × AtTalk v client (AsksNext requests) w × (w ≡ record v { clients = w.clients; asked = v.asked ++ requests })
ClientHappens v (c.AskAgain client) w =
    (t : TalkView) × (slice_get v.clients client ≡ Some t) × (w ≡ record v { asked = v.asked ++ asked_again t.asker })
ClientHappens v (c.Answer client told) w =
    (a : Answer) × (slice_get v.told told ≡ Some a) × AtTalk v client (HearsOne a) w × (w ≡ record v { clients = w.clients })
ClientHappens v (c.Print client) w = AtTalk v client TellsNext w × (w ≡ record v { clients = w.clients })

-- ---- events

abbrev pub Happening : LiveView → LiveEvent → LiveView → Type 0
Happening v (Keeper event) w = KeeperHappens v event w
Happening v (Primary event) w = PrimaryHappens v event w
Happening v (Client event) w = ClientHappens v event w
