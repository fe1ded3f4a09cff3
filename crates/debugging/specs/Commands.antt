-- Which packets ask for what.
use Rattle.std.specs.Prelude.{◌≡◌, ◌⊎◌, ◌==◌, ◌||◌, if◌then◌else◌, ℕ, List, ◌∷◌, codes}
use Rattle.debugging.specs.declared.commands.Command.{Command}
use Rattle.debugging.specs.declared.commands.Command.TheVariants.{Show, Change, Note, Go, Other}
use Rattle.debugging.specs.declared.commands.Other.TheVariants.{Query, Detach, Kill, Wrong, Unknown}
use Rattle.debugging.specs.declared.commands.Kind.{Kind}
use Rattle.debugging.specs.declared.commands.Kind.TheVariants.{Shows, Changes, Notes, Asks, Goes, Nothing}
use Rattle.debugging.specs.declared.commands.Show.TheVariants.{Why, Registers, Register, Memory}
use Rattle.debugging.specs.Asked.{AsksForRegister, AsksForMemory, AsksForAnother, AsksToGo}
use Rattle.debugging.specs.Notes.{AsksToNote}

-- the kind of a packet with this first byte: `?gpm`, `GPMX`, `HTZz`, `qQDk`, `scbv`
abbrev pub kind_of : ℕ → Kind
kind_of first =
    if first == 63 || first == 103 || first == 112 || first == 109 then Shows
    else if first == 71 || first == 80 || first == 77 || first == 88 then Changes
    else if first == 72 || first == 84 || first == 90 || first == 122 then Notes
    else if first == 113 || first == 81 || first == 68 || first == 107 then Asks
    else if first == 115 || first == 99 || first == 98 || first == 118 then Goes
    else Nothing

-- a packet of no kind that is known
abbrev pub IsUnknown : List ℕ → Type 0
IsUnknown packet = (first : ℕ) × (rest : List ℕ) × (kind_of first ≡ Nothing) × (packet ≡ first ∷ rest)

-- `q..` and `Q..`
abbrev pub IsQuery : List ℕ → Type 0
IsQuery packet = (kind : ℕ) × (rest : List ℕ) × ((kind ≡ 113) ⊎ (kind ≡ 81)) × (packet ≡ kind ∷ rest)

-- the packet asks for the command
abbrev pub AsksFor : List ℕ → Command → Type 0
AsksFor packet (Show Why) = packet ≡ codes "?"
AsksFor packet (Show Registers) = packet ≡ codes "g"
AsksFor packet (Show (Register n)) = AsksForRegister packet n
AsksFor packet (Show (Memory range)) = AsksForMemory packet range.first range.length
AsksFor packet Change = AsksForAnother packet
AsksFor packet (Note note) = AsksToNote packet note
AsksFor packet (Go way thread) = AsksToGo packet way thread
AsksFor packet (Other Query) = IsQuery packet
AsksFor packet (Other Detach) = packet ≡ codes "D"
AsksFor packet (Other Kill) = packet ≡ codes "k"
AsksFor packet (Other Unknown) = IsUnknown packet
AsksFor packet (Other Wrong) = ⊥

-- it only shows the machine, would change the past, ends the session, or is not known
abbrev pub IsStill : Command → Type 0
IsStill (Show shown) = Unit {0}
IsStill Change = Unit {0}
IsStill (Note noted) = ⊥
IsStill (Go way thread) = ⊥
IsStill (Other Detach) = Unit {0}
IsStill (Other Kill) = Unit {0}
IsStill (Other Unknown) = Unit {0}
IsStill (Other other) = ⊥
