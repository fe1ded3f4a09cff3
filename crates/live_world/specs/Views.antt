-- The processes that are led, and when a world of processes is theirs.
use Rattle.std.specs.Prelude.{◌≡◌, ◌<◌, ◌↔◌, ℕ, List, [], replicate, Contains, Option, Some}
use Rattle.ft_types.specs.declared.names.TheConstants.{KEEPER_LIMIT}
use Rattle.ft_types.specs.declared.quorum.Quorum.{Quorum}
use Rattle.guest_image.specs.Image.{ImageContents, guest_of}
use Rattle.fragment_codec.specs.declared.frame.Frame.{Frame}
use Rattle.stations.specs.Handing.{IsHandedTo}
use Rattle.asking.specs.Talks.{TalkView}
use Rattle.wire.specs.declared.acknowledgements.Acknowledgement.{Acknowledgement}
use Rattle.wire.specs.declared.answers.Answer.{Answer}
use Rattle.wire.specs.declared.requests.Request.{Request}
use Rattle.process_world.specs.Worlds.{Handed, ProcessWorld}
use Rattle.process_world.specs.Happenings.{Happens, Comes}
use Rattle.live_world.specs.declared.hand.HandedTo.{HandedTo}
use Rattle.live_world.specs.declared.seat.Seat.{Seat}
use Rattle.live_world.specs.declared.site.Site.{Site}
use Rattle.live_world.specs.Seats.{AreSeatsOf}
use Rattle.live_world.specs.Sites.{IsAtRest, disk_at, empty_site, site_at}

pub record LiveView : Type 0 where
  pub image : ImageContents
  pub quorum : Quorum
  pub sites : List (Option Site)  -- by keeper; none once it is lost
  pub frames : List Frame  -- what was sent, said, handed over, told and asked for, and is not lost
  pub said : List Acknowledgement
  pub handed : List HandedTo
  pub led : List Seat  -- by the order in which their terms were granted
  pub told : List Answer
  pub asked : List Request
  pub clients : List TalkView

abbrev pub first_world : ImageContents → Quorum → LiveView
first_world image quorum = record {
  image = image;
  quorum = quorum;
  sites = replicate quorum.keepers (Some empty_site);
  frames = [];
  said = [];
  handed = [];
  led = [];
  told = [];
  asked = [];
  clients = [];
}

-- the log was handed over there, by these bytes
pub record IsHandedIn (w : ProcessWorld) (h : HandedTo) : Type 0 where
  pub bytes : List ℕ
  pub there : Contains w.handed (record { keeper = h.keeper; term = h.term; bytes = bytes })
  pub line : IsHandedTo (guest_of w.image) h.keeper h.term bytes h.bytes.items
  pub named : h.keeper < KEEPER_LIMIT

-- It is a world of these processes, each at the same point, between two calls. Frames and logs may have been sent that are lost.
pub record IsWorldOf (v : LiveView) (w : ProcessWorld) : Type 0 where
  pub image : w.image ≡ v.image
  pub keepers : w.keepers ≡ v.quorum.keepers
  pub need : w.need ≡ v.quorum.need
  pub disks : (k : ℕ) → w.disks k ≡ disk_at v.sites k
  pub at_rest : (k : ℕ) (s : Site) → site_at v.sites k ≡ Some s → IsAtRest k s
  pub frames : (f : Frame) → Contains v.frames f → Contains w.frames f
  pub said : (a : Acknowledgement) → Contains v.said a ↔ Contains w.said a
  pub handed : (h : HandedTo) → Contains v.handed h → IsHandedIn w h
  pub led : AreSeatsOf v.led w.led
  pub told : (a : Answer) → Contains v.told a ↔ Contains w.told a
  pub clients : w.clients ≡ v.clients
  pub asked : (r : Request) → Contains v.asked r ↔ Contains w.asked r

-- some of what may happen leads from one world of processes to the other
pub data Follows (w : ProcessWorld) : ProcessWorld → Type 0 where
  Same : Follows w w
  Then : {v u : ProcessWorld} → Follows w v → Happens v u → Follows w u

-- Whatever world of processes it was, what may happen leads from it to one of what it is now.
abbrev pub GoesTo : LiveView → LiveView → Type 0
GoesTo v u =
    (w : ProcessWorld) → Comes v.image v.quorum.keepers v.quorum.need w → IsWorldOf v w → (x : ProcessWorld) × Follows w x × IsWorldOf u x
