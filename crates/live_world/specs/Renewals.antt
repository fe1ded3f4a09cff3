-- A keeper's number that goes to a new log, with what other keepers handed over to a term.
use Rattle.std.specs.Prelude.{◌≡◌, ◌≢◌, ◌<◌, ◌≤◌, ◌⊎◌, ℕ, false, List, [], ◌∷◌, Contains, length, map, slice_get, slice_set, Option, None, Some}
use Rattle.ft_types.specs.Guests.{GuestParts}
use Rattle.ft_types.specs.declared.quorum.Quorum.{Quorum}
use Rattle.guest_image.specs.Image.{guest_of}
use Rattle.go_live.specs.Quorums.{AreEnough}
use Rattle.keeper_disks.specs.Disks.{Nobody}
use Rattle.leading.specs.Handed.{IsWhole, IsNotWhole}
use Rattle.leading.specs.declared.handed.HandedLog.{HandedLog}
use Rattle.log_mending.specs.Mending.{IsWholeLog}
use Rattle.wire.specs.declared.acknowledgements.Acknowledgement.{Acknowledgement}
use Rattle.live_world.specs.declared.fault.EventFault.{EventFault}
use Rattle.live_world.specs.declared.fault.EventFault.TheVariants as fault
use Rattle.live_world.specs.declared.hand.HandedTo.{HandedTo}
use Rattle.live_world.specs.declared.site.Site.{Site}
use Rattle.live_world.specs.Shelves.{ShelfView}
use Rattle.live_world.specs.Sites.{site_at}
use Rattle.live_world.specs.Views.{LiveView}

-- files with these bytes on disk, and this fence
abbrev pub made_shelf : List ℕ → ℕ → ShelfView
made_shelf bytes fence = record {
  files = record { log = bytes; safe = bytes; fence = fence };
  hand = Nobody;
  read = None;
  crashed = false;
}

-- the keeper acknowledged something in the term or a later one
abbrev pub HasSaidSince : List Acknowledgement → ℕ → ℕ → Type 0
HasSaidSince said keeper term = (n : ℕ) × (a : Acknowledgement) × (slice_get said n ≡ Some a) × (a.keeper ≡ keeper) × (term ≤ a.term)

-- ---- what others handed over

-- another keeper handed this log over to the term
pub record IsHandedBy (guest : GuestParts) (keeper term : ℕ) (h : HandedTo) (giver : ℕ) (log : List ℕ) : Type 0 where
  pub handed : HandedLog
  pub whole : IsWhole guest h.bytes.items handed
  pub by : handed.keeper ≡ giver
  pub other : giver ≢ keeper
  pub to : handed.term ≡ term
  pub frames : whole.rest ≡ log

-- it was handed over to another term, or is the keeper's own
abbrev pub IsNoOthers : HandedLog → ℕ → ℕ → EventFault → Type 0
IsNoOthers log keeper term fault.OtherTerm = log.term ≢ term
IsNoOthers log keeper term fault.OwnLog = log.keeper ≡ keeper
IsNoOthers log keeper term other = ⊥

-- it is no log, was handed over to another term, or is the keeper's own; or memory was refused
abbrev pub IsNotHandedBy : GuestParts → ℕ → ℕ → HandedTo → EventFault → Type 0
IsNotHandedBy guest keeper term h (fault.Handed why) = IsNotWhole guest h.bytes.items why
IsNotHandedBy guest keeper term h fault.Memory = Unit {0}
IsNotHandedBy guest keeper term h f = (log : HandedLog) × IsWhole guest h.bytes.items log × IsNoOthers log keeper term f

-- a log, and who handed it over
pub record Gift : Type 0 where
  pub giver : ℕ
  pub log : List ℕ

-- what others handed over to the term, by these numbers
abbrev pub AreGifts : GuestParts → ℕ → ℕ → List HandedTo → List ℕ → List Gift → Type 0
AreGifts guest keeper term handed [] [] = Unit {0}
AreGifts guest keeper term handed (n ∷ numbers) (g ∷ gifts) =
    ((h : HandedTo) × (slice_get handed n ≡ Some h) × IsHandedBy guest keeper term h g.giver g.log) × AreGifts guest keeper term handed numbers gifts
AreGifts guest keeper term handed [] (g ∷ gifts) = ⊥
AreGifts guest keeper term handed (n ∷ numbers) [] = ⊥

abbrev pub givers_of : List Gift → List ℕ
givers_of gifts = map (λ g. g.giver) gifts

-- these logs, of as many keepers as a primary of the term has to have
pub record AreEnoughLogs (guest : GuestParts) (quorum : Quorum) (keeper term : ℕ) (handed : List HandedTo) (numbers : List ℕ) (logs : List (List ℕ)) : Type 0 where
  pub gifts : List Gift
  pub are : AreGifts guest keeper term handed numbers gifts
  pub enough : AreEnough quorum.keepers quorum.need (givers_of gifts)
  pub of_gifts : map (λ g. g.log) gifts ≡ logs

-- the files have all frames of such logs, each once, and the term's fence
abbrev pub IsNewLog : GuestParts → Quorum → ℕ → ℕ → List HandedTo → List ℕ → ShelfView → Type 0
IsNewLog guest quorum keeper term handed numbers files =
    (logs : List (List ℕ)) × AreEnoughLogs guest quorum keeper term handed numbers logs ×
    (bytes : List ℕ) × IsWholeLog guest logs bytes × (files ≡ made_shelf bytes term)

-- why there is no such log: a number of nothing that was handed over, what is no log of another keeper to the term, too few keepers, or frames of no store
abbrev pub IsNoNewLog : GuestParts → Quorum → ℕ → ℕ → List HandedTo → List ℕ → EventFault → Type 0
IsNoNewLog guest quorum keeper term handed numbers fault.NoneHanded = (n : ℕ) × Contains numbers n × (length handed ≤ n)
IsNoNewLog guest quorum keeper term handed numbers fault.TooFew =
    (gifts : List Gift) × AreGifts guest keeper term handed numbers gifts × (AreEnough quorum.keepers quorum.need (givers_of gifts) → ⊥)
IsNoNewLog guest quorum keeper term handed numbers (fault.Mend why) = (logs : List (List ℕ)) × AreEnoughLogs guest quorum keeper term handed numbers logs
IsNoNewLog guest quorum keeper term handed numbers f =
    (f ≡ fault.Memory) ⊎ ((n : ℕ) × (h : HandedTo) × Contains numbers n × (slice_get handed n ≡ Some h) × IsNotHandedBy guest keeper term h f)

-- ---- the machine

-- a machine with these files, and no process, is in the place of the keeper's, whose last fence is not above the term
pub record IsReplaced (sites : List (Option Site)) (keeper term : ℕ) (files : ShelfView) (now : List (Option Site)) : Type 0 where
  pub before : Site
  pub there : site_at sites keeper ≡ Some before
  pub under : before.files.files.fence ≤ term
  pub granted : 0 < term
  pub put : now ≡ slice_set sites keeper (Some (record { files = files; station = None }))

-- there is no such keeper, its last fence is above the term, or there is no such term
abbrev pub IsNotReplaced : List (Option Site) → ℕ → ℕ → EventFault → Type 0
IsNotReplaced sites keeper term fault.NoKeeper = site_at sites keeper ≡ None
IsNotReplaced sites keeper term (fault.Fenced last) =
    (before : Site) × (site_at sites keeper ≡ Some before) × (before.files.files.fence ≡ last) × ((term ≡ 0) ⊎ (term < last))
IsNotReplaced sites keeper term other = ⊥

-- ---- the event

-- The keeper's machine is one over a new log, with all that enough others handed over to the term; its old one acknowledged nothing in that term or behind it.
pub record IsRenewed (v : LiveView) (keeper term : ℕ) (numbers : List ℕ) (w : LiveView) : Type 0 where
  pub silent : HasSaidSince v.said keeper term → ⊥
  pub files : ShelfView
  pub new : IsNewLog (guest_of v.image) v.quorum keeper term v.handed numbers files
  pub replaced : IsReplaced v.sites keeper term files w.sites
  pub rest : w ≡ record v { sites = w.sites }

-- the keeper acknowledged there, there is no new log, or none is put in the place of its own
abbrev pub IsNotRenewed : LiveView → ℕ → ℕ → List ℕ → EventFault → Type 0
IsNotRenewed v keeper term numbers fault.HasSaid = HasSaidSince v.said keeper term
IsNotRenewed v keeper term numbers f =
    IsNoNewLog (guest_of v.image) v.quorum keeper term v.handed numbers f ⊎ IsNotReplaced v.sites keeper term f
