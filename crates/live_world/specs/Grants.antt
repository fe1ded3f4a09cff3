-- A primary that goes live from what was handed over.
use Rattle.std.specs.Prelude.{◌≡◌, ◌<◌, ◌≤◌, ℕ, List, [], ◌∷◌, Contains, length, slice_get, Some}
use Rattle.ft_types.specs.Guests.{GuestParts}
use Rattle.ft_types.specs.declared.names.TheConstants.{KEEPER_LIMIT}
use Rattle.ft_types.specs.declared.quorum.Quorum.{Quorum}
use Rattle.guest_image.specs.Image.{ImageContents, guest_of}
use Rattle.fragment_codec.specs.declared.frame.Frame.{Frame}
use Rattle.fragment_codec.specs.Streams.{Splits}
use Rattle.log_join.specs.Coming.{IsJoinOf}
use Rattle.fenced_live.specs.declared.given.Given.{Given}
use Rattle.stations.specs.Handing.{IsHandedTo}
use Rattle.leading.specs.Beginning.{CannotGoLive}
use Rattle.leading.specs.Handed.{IsGiven, IsNotWhole}
use Rattle.leading.specs.declared.handed.HandedLog.{HandedLog}
use Rattle.live_world.specs.declared.fault.EventFault.{EventFault}
use Rattle.live_world.specs.declared.fault.EventFault.TheVariants as fault
use Rattle.live_world.specs.declared.hand.HandedTo.{HandedTo}

-- of what a keeper handed over it is the store of those frames, as it was given to that term
abbrev pub IsGivenOf : GuestParts → HandedTo → Given → Type 0
IsGivenOf guest h g =
    (keeper term : ℕ) (sent : List ℕ) → keeper < KEEPER_LIMIT → IsHandedTo guest keeper term sent h.bytes.items →
    (g.keeper ≡ keeper) × (g.term ≡ term) × (frames : List Frame) × Splits sent frames [] × IsJoinOf guest frames g.store.now

-- the stores of what was handed over, by these numbers
abbrev pub AreGivenBy : GuestParts → List HandedTo → List ℕ → List Given → Type 0
AreGivenBy guest handed [] [] = Unit {0}
AreGivenBy guest handed (n ∷ numbers) (g ∷ given) =
    ((h : HandedTo) × (slice_get handed n ≡ Some h) × IsGivenOf guest h g) × AreGivenBy guest handed numbers given
AreGivenBy guest handed [] (g ∷ given) = ⊥
AreGivenBy guest handed (n ∷ numbers) [] = ⊥

-- why no primary goes live: a number of nothing that was handed over, bytes that are no log, a primary's own reasons, or memory
abbrev pub IsNotLive : ImageContents → Quorum → ℕ → List HandedTo → List ℕ → EventFault → Type 0
IsNotLive image quorum term handed numbers fault.NoneHanded = (n : ℕ) × Contains numbers n × (length handed ≤ n)
IsNotLive image quorum term handed numbers (fault.Handed why) =
    (n : ℕ) × (h : HandedTo) × Contains numbers n × (slice_get handed n ≡ Some h) × IsNotWhole (guest_of image) h.bytes.items why
IsNotLive image quorum term handed numbers (fault.Lead why) =
    (given : List Given) × AreGivenBy (guest_of image) handed numbers given × CannotGoLive image quorum term given why
IsNotLive image quorum term handed numbers fault.Memory = Unit {0}
IsNotLive image quorum term handed numbers other = ⊥

-- ---- private words

-- the logs of what was handed over, by these numbers
abbrev pub HasLogs : GuestParts → List HandedTo → List ℕ → List HandedLog → Type 0
HasLogs guest handed [] [] = Unit {0}
HasLogs guest handed (n ∷ numbers) (l ∷ logs) =
    ((h : HandedTo) × (slice_get handed n ≡ Some h) × ((keeper term : ℕ) (sent : List ℕ) → keeper < KEEPER_LIMIT →
    IsHandedTo guest keeper term sent h.bytes.items → IsGiven guest keeper term sent l)) × HasLogs guest handed numbers logs
HasLogs guest handed [] (l ∷ logs) = ⊥
HasLogs guest handed (n ∷ numbers) [] = ⊥
