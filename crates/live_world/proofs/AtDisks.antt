-- What goes on at one keeper's disk, act by act.
use Rattle.std.proofs.Common.{◌≡◌, ◌++◌, ℕ, List, [], ◌∷◌, Contains, Option, None, Some, refl, sym, ap, subst, ◌∙◌, append_assoc}
use Rattle.std.proofs.lemmas.List.Elements.{Contains-append_right}
use Rattle.interleaving.specs.Lists.{put}
use Rattle.interleaving.proofs.Put.{put_same, put_other}
use Rattle.fragment_codec.specs.declared.frame.Frame.{Frame}
use Rattle.fragment_codec.specs.Streams.{IsPartial, Splits}
use Rattle.guest_image.specs.Image.{ImageContents, guest_of}
use Rattle.ft_types.specs.declared.position.Position.{Position}
use Rattle.keeper_disks.specs.Disks.{Disk, Out, Nothing, Says, Hands, Goes}
use Rattle.process_world.specs.Worlds.{Handed, ProcessWorld}
use Rattle.process_world.specs.Happenings.{AtKeeper, with_out}
use Rattle.wire.specs.declared.acknowledgements.Acknowledgement.{Acknowledgement}
use Rattle.live_world.specs.Shelves.{ReadView}
use Rattle.live_world.specs.Views.{Follows, Same, Then}

-- what went on at the keeper's disk, which is this now: nothing else is another but what was said and handed over
pub record GoesAt (w : ProcessWorld) (keeper : ℕ) (d : Disk) (said : List Acknowledgement) (x : ProcessWorld) : Type 0 where
  pub follows : Follows w x
  pub image : x.image ≡ w.image
  pub keepers : x.keepers ≡ w.keepers
  pub need : x.need ≡ w.need
  pub disk : x.disks keeper ≡ Some d
  pub others : (k : ℕ) → (k ≡ keeper → ⊥) → x.disks k ≡ w.disks k
  pub frames : x.frames ≡ w.frames
  pub said_more : x.said ≡ said ++ w.said
  pub handed : (h : Handed) → Contains w.handed h → Contains x.handed h
  pub led : x.led ≡ w.led
  pub told : x.told ≡ w.told
  pub clients : x.clients ≡ w.clients
  pub asked : x.asked ≡ w.asked

-- the frames of what was read were handed over
abbrev pub ReadIn : ProcessWorld → ℕ → Option ReadView → Type 0
ReadIn x keeper None = Unit {0}
ReadIn x keeper (Some read) =
    (bytes rest : List ℕ) (frames : List Frame) → read.log ≡ bytes ++ rest → Splits bytes frames [] → IsPartial rest →
    Contains x.handed (record { keeper = keeper; term = read.term; bytes = bytes })

-- what was handed over stays so
pub still_read : (x y : ProcessWorld) (keeper : ℕ) (read : Option ReadView) → ((h : Handed) → Contains x.handed h → Contains y.handed h) →
    ReadIn x keeper read → ReadIn y keeper read
still_read x y keeper None more is = tt
still_read x y keeper (Some read) more is =
    λ bytes rest frames parts splits partial.
    more (record { keeper = keeper; term = read.term; bytes = bytes }) (is bytes rest frames parts splits partial)

-- where nothing went on yet
pub still_there : {w : ProcessWorld} {keeper : ℕ} {d : Disk} → w.disks keeper ≡ Some d → GoesAt w keeper d [] w
still_there at = record {
  follows = Same;
  image = refl;
  keepers = refl;
  need = refl;
  disk = at;
  others = λ k other. refl;
  frames = refl;
  said_more = refl;
  handed = λ h has. has;
  led = refl;
  told = refl;
  clients = refl;
  asked = refl;
}

-- the disk is this one
pub as_disk : {w x : ProcessWorld} {keeper : ℕ} {d e : Disk} {said : List Acknowledgement} → d ≡ e → GoesAt w keeper d said x → GoesAt w keeper e said x
as_disk {w} {x} {keeper} {said = said} same goes = subst (λ (d : Disk). GoesAt w keeper d said x) same goes

-- the world with another disk, and with what others learned
abbrev pub with_lists : ProcessWorld → ℕ → Disk → List Acknowledgement → List Handed → ProcessWorld
with_lists x keeper e said handed = record x { disks = put x.disks keeper (Some e); said = said ++ x.said; handed = handed ++ x.handed }

module _ {w : ProcessWorld} {keeper : ℕ} {d : Disk} {said : List Acknowledgement} {x : ProcessWorld} (goes : GoesAt w keeper d said x) where
  happens : (e : Disk) (out : Out) → Goes (guest_of w.image) w.frames d e out →
      Follows w (with_out (record x { disks = put x.disks keeper (Some e) }) keeper out)
  happens e out act =
      let of_image : Goes (guest_of x.image) w.frames d e out =
      subst (λ (image : ImageContents). Goes (guest_of image) w.frames d e out) (sym goes.image) act in
      let there : Goes (guest_of x.image) x.frames d e out =
      subst (λ (sent : List Frame). Goes (guest_of x.image) sent d e out) (sym goes.frames) of_image in
      Then goes.follows (AtKeeper keeper d e out goes.disk there)

  goes_on : (e : Disk) (more : List Acknowledgement) (handed : List Handed) → Follows w (with_lists x keeper e more handed) →
      GoesAt w keeper e (more ++ said) (with_lists x keeper e more handed)
  goes_on e more handed follows = record {
    follows = follows;
    image = goes.image;
    keepers = goes.keepers;
    need = goes.need;
    disk = put_same x.disks keeper keeper (Some e) refl;
    others = λ k other. put_other x.disks keeper k (Some e) (λ same. other (sym same)) ∙ goes.others k other;
    frames = goes.frames;
    said_more = ap (λ (all : List Acknowledgement). more ++ all) goes.said_more ∙ sym (append_assoc more said w.said);
    handed = λ h has. Contains-append_right handed x.handed h (goes.handed h has);
    led = goes.led;
    told = goes.told;
    clients = goes.clients;
    asked = goes.asked;
  }

  -- an act that tells others nothing
  pub quiet : {e : Disk} → Goes (guest_of w.image) w.frames d e Nothing → GoesAt w keeper e said (with_lists x keeper e [] [])
  quiet {e} act = goes_on e [] [] (happens e Nothing act)

  -- an acknowledgement
  pub says : {e : Disk} (p : Position) → Goes (guest_of w.image) w.frames d e (Says p) →
      GoesAt w keeper e (record { term = p.term; keeper = keeper; counts = p.counts } ∷ said)
      (with_lists x keeper e (record { term = p.term; keeper = keeper; counts = p.counts } ∷ []) [])
  says {e} p act = goes_on e (record { term = p.term; keeper = keeper; counts = p.counts } ∷ []) [] (happens e (Says p) act)

  -- a log is handed over
  pub hands : {e : Disk} (term : ℕ) (bytes : List ℕ) → Goes (guest_of w.image) w.frames d e (Hands term bytes) →
      GoesAt w keeper e said (with_lists x keeper e [] (record { keeper = keeper; term = term; bytes = bytes } ∷ []))
  hands {e} term bytes act = goes_on e [] (record { keeper = keeper; term = term; bytes = bytes } ∷ []) (happens e (Hands term bytes) act)
