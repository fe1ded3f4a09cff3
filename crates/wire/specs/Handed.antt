-- The line before frames that are handed out.
use Rattle.std.specs.Prelude.{◌≡◌, ℕ, ◌<◌, List, [], ◌∷◌, codes, decimal}
use Rattle.ft_types.specs.Counts.{IsCount}
use Rattle.ft_types.specs.Guests.{GuestParts}
use Rattle.ft_types.specs.declared.names.TheConstants.{KEEPER_LIMIT}
use Rattle.wire.specs.Fields.{spelling}
use Rattle.wire.specs.Seals.{sealed}
use Rattle.wire.specs.Values.{IsTerm}
use Rattle.wire.specs.declared.handed.Handed.{Handed}

-- for a term that was granted, and fewer than COUNT_LIMIT bytes
pub record IsHanded (h : Handed) : Type 0 where
  pub term : IsTerm h.term
  pub keeper : h.keeper < KEEPER_LIMIT
  pub length : IsCount h.length

abbrev pub handed_fields : Handed → List (List ℕ)
handed_fields h = decimal h.term ∷ decimal h.keeper ∷ decimal h.length ∷ []

-- these fields stand behind the name
abbrev pub HasHanded : List (List ℕ) → Handed → Type 0
HasHanded fields h = IsHanded h × (fields ≡ handed_fields h)

-- handed T K L S
abbrev pub handed_text : GuestParts → Handed → List ℕ
handed_text guest h = sealed guest (spelling (codes "handed" ∷ handed_fields h))

abbrev pub SaysHanded : GuestParts → List ℕ → Handed → Type 0
SaysHanded guest text h = IsHanded h × (text ≡ handed_text guest h)
