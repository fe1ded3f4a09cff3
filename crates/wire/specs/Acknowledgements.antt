-- Acknowledgements, and what a keeper asks that begins anew.
use Rattle.std.specs.Prelude.{◌≡◌, ℕ, ◌<◌, List, [], ◌∷◌, length, map, codes, decimal}
use Rattle.std.specs.List.{AllByRecursion}
use Rattle.ft_types.specs.Counts.{IsCount}
use Rattle.ft_types.specs.Guests.{GuestParts}
use Rattle.ft_types.specs.declared.names.TheConstants.{KEEPER_LIMIT}
use Rattle.wire.specs.Fields.{spelling}
use Rattle.wire.specs.Seals.{sealed}
use Rattle.wire.specs.Values.{IsTerm}
use Rattle.wire.specs.declared.acknowledgements.Acknowledgement.{Acknowledgement}

-- of a term that was granted, with a count for each of so many harts
pub record IsAcknowledgement (harts : ℕ) (a : Acknowledgement) : Type 0 where
  pub term : IsTerm a.term
  pub keeper : a.keeper < KEEPER_LIMIT
  pub row : length a.counts ≡ harts
  pub counts : AllByRecursion IsCount a.counts

-- behind the name: the term, the keeper, and the counts by rising hart
abbrev pub acknowledgement_fields : Acknowledgement → List (List ℕ)
acknowledgement_fields a = decimal a.term ∷ decimal a.keeper ∷ map decimal a.counts

-- these fields stand behind the name
abbrev pub HasAcknowledgement : ℕ → List (List ℕ) → Acknowledgement → Type 0
HasAcknowledgement harts fields a = IsAcknowledgement harts a × (fields ≡ acknowledgement_fields a)

-- ack T K C .. S
abbrev pub acknowledgement_text : GuestParts → Acknowledgement → List ℕ
acknowledgement_text guest a = sealed guest (spelling (codes "ack" ∷ acknowledgement_fields a))

-- the text is this acknowledgement
abbrev pub SaysAcknowledgement : GuestParts → List ℕ → Acknowledgement → Type 0
SaysAcknowledgement guest text a = IsAcknowledgement guest.harts a × (text ≡ acknowledgement_text guest a)

-- again K S
abbrev pub again_text : GuestParts → ℕ → List ℕ
again_text guest keeper = sealed guest (spelling (codes "again" ∷ decimal keeper ∷ []))

abbrev pub SaysAgain : GuestParts → List ℕ → ℕ → Type 0
SaysAgain guest text keeper = (keeper < KEEPER_LIMIT) × (text ≡ again_text guest keeper)
