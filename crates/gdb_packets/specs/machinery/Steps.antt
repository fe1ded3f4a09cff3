-- What a byte of a text does, and what a whole one says.
use Rattle.std.specs.Prelude.{◌≡◌, ◌⊎◌, ℕ, ◌==◌, if◌then◌else◌, List, [], ◌∷◌}
use Rattle.gdb_packets.specs.declared.event.Event.{Event}
use Rattle.gdb_packets.specs.declared.feed.Place.{Place}
use Rattle.gdb_packets.specs.declared.feed.Place.TheVariants.{Between, Body, Sum, LastDigit}
use Rattle.gdb_packets.specs.Streams.{Item, IsItem, text_of, events_of}

-- where the stream stands behind a byte of a text under way
abbrev pub place_after : Place → ℕ → Place
place_after Body b = if b == 35 then Sum else Body
place_after Sum b = LastDigit
place_after LastDigit b = LastDigit
place_after Between b = Between

-- inside a text, and not before its last byte
abbrev pub IsInside : Place → Type 0
IsInside place = (place ≡ Body) ⊎ (place ≡ Sum)

-- the text is an item, and this is its event
abbrev pub Says : List ℕ → Event → Type 0
Says text event = (item : Item) × IsItem item × (text_of item ≡ text) × (events_of item ≡ event ∷ [])
